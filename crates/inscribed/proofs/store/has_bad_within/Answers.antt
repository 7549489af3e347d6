-- `has_bad_within` asks the circles in use that the store holds. Assumes nothing.
use Rattle.std.proofs.Common.{◌∙◌, refl, rules, tests, arith}
use Rattle.std.proofs.lemmas.Iterator.{YieldsList-from_range}
use Rattle.std.proofs.lemmas.Iterator.Search.{any_from_yields_List}
use Rattle.inscribed.specs.Store.{bad_circle, circle_at, circles_of}
use Rattle.inscribed.proofs.StoreLaws.{list_any-circles, any_bad_is}
use Rattle.inscribed.proofs.store.has_bad_within.Goals as goal

pub returns : goal.returns
returns c =
    let ns = c.args.store.now in
    let n = c.min-held.result in
    let asked = any_from_yields_List (λ k. bad_circle (circle_at ns k)) _ _ _ c.any.ensures.ran (YieldsList-from_range 0 n n refl (omega arith)) (λ x b q k. search (rules, tests)) in
    rw (← c.slots_in.ensures, ← c.min-held.ensures) (asked ∙ list_any-circles bad_circle ns 0 n ∙ any_bad_is (circles_of ns n))
