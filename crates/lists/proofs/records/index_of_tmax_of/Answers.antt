use mathlib.Core.Path.{refl}
use mathlib.Core.List.{[]}
use Rattle.std.proofs.Common.{rules}
use Rattle.inscribed.specs.Store.{circle_from}
use Rattle.lists.specs.Asked.{tmax_records}
use Rattle.lists.proofs.records.index_of_tmax_of.Goals as goal

pub returns-else-has_bad_record : goal.returns-else-has_bad_record
unfolding tmax_records circle_from
returns-else-has_bad_record c =
    rw (← c.if-has_bad_record.ensures, c.index_of_greatest.ensures c.args.circles.now (circle_from [] 0) refl (λ k r h p. search rules))
