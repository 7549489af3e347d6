-- `has_bad_number` is test 2. Assumes nothing.
use Rattle.std.proofs.Common.{◌∙◌, not, rules, tests}
use Rattle.std.proofs.lemmas.Iterator.{YieldsList-from_slice}
use Rattle.std.proofs.lemmas.Iterator.Search.{any_from_yields_List}
use Rattle.curve2.specs.Entry.{in_range}
use Rattle.curve2.proofs.entering.Laws.{bad_numbers_is}
use Rattle.curve2.proofs.entering.has_bad_number.Goals as goal

pub returns : goal.returns
returns c =
    let ns = c.args.points.now in
    any_from_yields_List (λ x. not (in_range x)) _ _ _ c.any.ensures.ran (YieldsList-from_slice ns cc) (λ x b q k. search (rules, tests)) ∙ bad_numbers_is ns
