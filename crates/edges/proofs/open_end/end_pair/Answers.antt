-- `end_pair` reads the two circles at the end that is meant. Assumes nothing.
use Rattle.edges.proofs.EndLaws.{front-pair}
use Rattle.edges.proofs.open_end.end_pair.Goals as goal

pub returns-then-at_front : goal.returns-then-at_front
returns-then-at_front c = rw (c.if-at_front.true, c.at.ensures, c.at-then-at_front.ensures) (front-pair _ _ c.requires)

pub returns-else-at_front : goal.returns-else-at_front
returns-else-at_front c = rw c.if-at_front.false c.last_pair.ensures
