-- The edge was tested on entry. Assumes nothing.
use borrow.Author.Tests.{ltb-true, not-false}
use Rattle.errors.proofs.Laws.{told}
use Rattle.curve2.proofs.Laws.{lent_room}
use Rattle.sections.proofs.length_along.Goals as goal

pub length_along-requires : goal.length_along-requires
length_along-requires c = rw c.in_ok-curve.ensures.lent.0 (ltb-true _ _ (told c.has_edge-there.ensures (not-false _ (lent_room _ _ _ _ _ c.entered.ensures.entry c.in_ok-curve.was))))
