use Rattle.std.proofs.Common.{◌∙◌, rules, tests}
use Rattle.std.proofs.lemmas.Iterator.{YieldsList-from_slice}
use Rattle.std.proofs.lemmas.Iterator.Search.{any_from_yields_List}
use Rattle.inscribed.specs.Store.{bad_circle}
use Rattle.inscribed.proofs.StoreLaws.{any_bad_is}
use Rattle.lists.proofs.records.has_bad_record.Goals as goal

pub returns : goal.returns
returns c =
    let cs = c.args.circles.now in
    any_from_yields_List bad_circle _ _ _ c.any.ensures.ran (YieldsList-from_slice cs cc) (λ x b q k. search (rules, tests)) ∙ any_bad_is cs
