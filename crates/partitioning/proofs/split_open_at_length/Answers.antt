-- A refusal of the entry tests, and of a closed section. Assumes nothing.
use Rattle.errors.proofs.Laws.{told, handed_on}
use Rattle.partitioning.specs.Pieces.{split_open}
use Rattle.partitioning.proofs.PieceLaws.{two-refused, either_short}
use Rattle.partitioning.proofs.split_open_at_length.Goals as goal

pub returns-in_err-curve : goal.returns-in_err-curve
unfolding split_open
returns-in_err-curve c =
    rw (handed_on c.from_residual.result _ c.from_residual.ensures.1)
    (two-refused _ _ _ _ (rw (← (rw (c.all_finite.ensures, c.min-room.ensures, either_short) at c.in_err-curve.ensures.entry))))

pub returns-then-is_closed : goal.returns-then-is_closed
unfolding split_open
returns-then-is_closed c =
    let h = c.in_ok-curve.ensures in
    two-refused _ _ _ _ (rw (← (rw (c.all_finite.ensures, c.min-room.ensures, either_short) at h.entry), rw (h.lent.0, h.lent.1) at (told c.is_closed.ensures c.if-is_closed.true)))
