-- `refine_all` is the refinements of the circles offered, in order. Assumes nothing.
use mathlib.Core.Path.{◌≡◌, refl, ap, ◌∙◌}
use Prim.Native.Nat.{◌-◌}
use native.Mathlib.Omega.{arith}
use Rattle.inscribed.proofs.StoreLaws.{stored-again}
use Rattle.refine.proofs.OffersLaws.{offering_start, all_over, one_ends, one_goes, next_of, none_left, other-unfinished}
use Rattle.refine.specs.Report.{listed_end}
use Rattle.refine.proofs.checked.refine_all.Goals as goal

pub loop-k-init : goal.loop-k-init
loop-k-init c =
    let e : c.args.offered.now.count - 0 ≡ c.args.offered.now.count = omega arith in (
      (refl, refl),
      rw e (offering_start _ _ _ _ _ _ _ _ (c.args.circles.now.in_store.0) c.args.units.within (stored-again c.args.circles.now.store.now c.args.circles.now.count (omega (arith, c.args.circles.now.in_store.0, c.args.circles.now.in_store.1)))),
    )

pub invariant_of-refine : goal.invariant_of-refine
invariant_of-refine c = record { within = omega (arith, c.loop-k.invariant.1.within) }

pub returns-in_default : goal.returns-in_default
returns-in_default c =
    let w = rw (next_of c.args.offered.now.store.now c.loop-k.k c.args.offered.now.count c.loop-k-test.true, ← c.at.ensures) at c.loop-k.invariant.1 in (
      one_ends _ _ _ _ _ _ _ _ _ _ _ w c.refine-ran.result c.refine-ran.new.circles.store.now c.refine-ran.ensures.0 (other-unfinished c.refine-ran.result.end c.in_default.not-Finished),
      (c.refine-ran.ensures.1.0 ∙ c.loop-k.invariant.0.0, c.refine-ran.ensures.1.1 ∙ c.loop-k.invariant.0.1),
      c.refine-ran.ensures.2,
    )

pub loop-k-preserved : goal.loop-k-preserved
loop-k-preserved c =
    let w = rw (next_of c.args.offered.now.store.now c.loop-k.k c.args.offered.now.count c.loop-k-test.true, ← c.at.ensures) at c.loop-k.invariant.1 in (
      (c.refine-ran.ensures.1.0 ∙ c.loop-k.invariant.0.0, c.refine-ran.ensures.1.1 ∙ c.loop-k.invariant.0.1),
      rw (c.refine-ran.ensures.1.1, c.refine-ran.ensures.2)
          (one_goes _ _ _ _ _ _ _ _ _ _ _ w c.refine-ran.result c.refine-ran.new.circles.store.now c.refine-ran.ensures.0 (ap listed_end c.in-Finished.is)),
    )

pub returns : goal.returns
returns c =
    let w = rw (none_left c.args.offered.now.store.now c.loop-k.k c.args.offered.now.count (omega arith)) at c.loop-k.invariant.1 in
    rw c.finished.ensures (all_over _ _ _ _ _ _ _ _ _ w, (c.loop-k.invariant.0.0, c.loop-k.invariant.0.1), refl)
