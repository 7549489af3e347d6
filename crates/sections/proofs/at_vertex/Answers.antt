-- The vertex was tested on entry. Assumes nothing.
use borrow.Author.Tests.{ltb-true, not-false}
use Rattle.curve2.proofs.Laws.{lent_room}
use Rattle.sections.proofs.at_vertex.Goals as goal

pub at_vertex-requires : goal.at_vertex-requires
at_vertex-requires c = rw c.in_ok-entered.ensures.lent.0 (ltb-true _ _ (not-false _ (lent_room _ _ _ _ _ c.entered.ensures.entry c.in_ok-entered.was)))
