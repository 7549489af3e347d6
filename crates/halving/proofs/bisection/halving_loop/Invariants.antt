-- `halving_loop` halves as long as the ends are wide apart. Assumes nothing.
use Prim.Native.Nat.{◌-◌}
use mathlib.Core.Path.{◌≡◌}
use Rattle.halving.specs.Halving.{halving}
use Rattle.halving.proofs.bisection.halving_loop.Given as goal

abbrev pub invariant-loop-turn : goal.invariant-loop-turn
invariant-loop-turn l = halving l.section.points.now l.line l.resolve l.len (52 - l.turn) l.ends ≡ halving l.section.points.now l.line l.resolve l.len 52 l.fn.first
