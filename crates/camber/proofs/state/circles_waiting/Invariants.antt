-- `circles_waiting` reads them. Assumes nothing.
use mathlib.Core.Path.{◌≡◌}
use lib.ListN.{length}
use Rattle.inscribed.specs.Store.{circles_of}
use Rattle.camber.proofs.state.circles_waiting.Given as goal

abbrev pub invariant-loop-k : goal.invariant-loop-k
invariant-loop-k l = (length l.waiting.items ≡ l.k) × (l.waiting.items ≡ circles_of l.numbers l.k)
