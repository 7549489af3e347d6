-- `reverse_points` swaps the contacts of each circle. The loop keeps that the circles from k on have still their own. Assumes nothing.
use mathlib.Core.List.{map}
use Rattle.inscribed.proofs.TurningLaws.{Swapping}
use Rattle.inscribed.specs.Circles.{reversed_points}
use Rattle.inscribed.specs.Store.{circles_of}
use Rattle.inscribed.proofs.checked.CirclesStore.reverse_points.Given as goal

abbrev pub invariant-loop-k : goal.invariant-loop-k
invariant-loop-k l = Swapping l.initial.store (map reversed_points (circles_of l.initial.store l.count)) l.count l.store l.k
