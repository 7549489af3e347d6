-- `tries` is the tries from the first fraction on. The loop keeps that what is left decides. Assumes nothing.
use Prim.Native.Nat.{◌-◌}
use mathlib.Core.Path.{◌≡◌}
use Rattle.runs.specs.Run.{under_limit}
use Rattle.advance.specs.Code.{tries_from}
use Rattle.advance.proofs.checked.tries.Given as goal

abbrev pub invariant-loop-k : goal.invariant-loop-k
invariant-loop-k l = (l.u.limit ≡ l.fn.units.limit) × (tries_from l.section.points.now l.tol l.c l.ray (under_limit l.fn.units.limit) (4 - l.k) l.k l.u.taken ≡ tries_from l.section.points.now l.tol l.c l.ray (under_limit l.fn.units.limit) (4 - l.fn.due) l.fn.due l.fn.units.taken)
