-- `place_of` finds the first that is greater. Assumes nothing.
use Rattle.std.proofs.Common.{◌∙◌, ap, length, rules, tests}
use Rattle.std.proofs.lemmas.Iterator.{YieldsList-from_slice}
use Rattle.std.proofs.lemmas.Iterator.Search.{position_from_yields_List}
use Rattle.std.specs.Prelude.{unwrap_or}
use Rattle.std.specs.Float.Ieee.{lt}
use Rattle.queries.proofs.joined.Laws.{place_told}
use Rattle.queries.proofs.joined.place_of.Goals as goal

pub returns : goal.returns
returns c =
    let gs = c.args.hits.now in
    let t = c.args.t in
    c.unwrap_or.ensures
    ∙ ap (λ r. unwrap_or r (length gs)) (position_from_yields_List (λ g. lt t g.t) _ _ _ c.position.ensures.ran (YieldsList-from_slice gs cc) (λ x b q k. search (rules, tests)))
    ∙ place_told t gs
