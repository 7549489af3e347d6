-- `refine` is the refinement run from the circles in its store on; an empty store accepts the offered one at once. Assumes nothing.
use mathlib.Core.Path.{◌≡◌, refl}
use native.Mathlib.Omega.{arith}
use Rattle.refine.proofs.EmptyLaws.{empty_refused, empty_accepted}
use Rattle.refine.proofs.checked.refine.Goals as goal

pub returns-then-circles-eq0 : goal.returns-then-circles-eq0
returns-then-circles-eq0 c = let e : c.args.circles.now.count ≡ 0 = omega arith in
    rw (c.refused.ensures, e) (empty_refused _ _ _ _ _ _ _ (c.args.circles.now.in_store.1) c.if-circles-eq0.true, (refl, refl), refl)

pub returns-else-circles-eq0 : goal.returns-else-circles-eq0
returns-else-circles-eq0 c = let e : c.args.circles.now.count ≡ 0 = omega arith in
    rw (c.finished.ensures, c.push.ensures.1, e) (empty_accepted _ _ _ _ _ _ _ (c.args.circles.now.in_store.1) c.if-circles-eq0.false, c.push.ensures.0, omega (arith, c.push.ensures.2))
