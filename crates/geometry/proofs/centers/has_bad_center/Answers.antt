-- `has_bad_center` asks the circles in use that the store holds. Assumes nothing.
use Rattle.std.proofs.Common.{◌∙◌, refl, rules, tests, arith}
use Rattle.std.proofs.lemmas.Iterator.{YieldsList-from_range}
use Rattle.std.proofs.lemmas.Iterator.Search.{any_from_yields_List}
use Rattle.inscribed.specs.Circles.{center}
use Rattle.inscribed.specs.Store.{circle_at, circles_of}
use Rattle.inscribed.proofs.StoreLaws.{list_any-circles}
use Rattle.geometry.specs.Camber.{bad_point}
use Rattle.geometry.proofs.CentersLaws.{any_bad_center_is}
use Rattle.geometry.proofs.centers.has_bad_center.Goals as goal

pub returns : goal.returns
returns c =
    let ns = c.args.store.now in
    let n = c.min-n.result in
    let asked = any_from_yields_List (λ k. bad_point (center (circle_at ns k))) _ _ _ c.any.ensures.ran (YieldsList-from_range 0 n n refl (omega arith)) (λ x b q k. search (rules, tests)) in
    rw (← c.slots_in.ensures, ← c.min-n.ensures) (asked ∙ list_any-circles (λ d. bad_point (center d)) ns 0 n ∙ any_bad_center_is (circles_of ns n))
