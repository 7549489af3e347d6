-- A refusal of the entry tests, and of an open section. Assumes nothing.
use Rattle.std.proofs.Common.{◌≡◌, ◌&&◌, arith}
use lib.Ieee.Scale.{finite}
use Rattle.errors.proofs.Laws.{told, handed_on}
use Rattle.partitioning.specs.Pieces.{split_closed}
use Rattle.partitioning.proofs.PieceLaws.{two-refused, either_short}
use Rattle.partitioning.proofs.split_closed_at_lengths.Goals.{then-all_finite, else-all_finite}
use Rattle.partitioning.proofs.split_closed_at_lengths.Goals as goal

pub returns-in_err-curve : goal.returns-in_err-curve
unfolding split_closed
returns-in_err-curve c =
    let are_finite : c.if-all_finite.is_finite ≡ (finite c.args.length0 && finite c.args.length1) = elim c.if-all_finite.branch [ then-all_finite w ↦ grind arith | else-all_finite w ↦ grind arith ] in
    rw (handed_on c.from_residual.result _ c.from_residual.ensures.1)
    (two-refused _ _ _ _ (rw (← (rw (are_finite, c.min-room.ensures, either_short) at c.in_err-curve.ensures.entry))))

pub returns-then-not-is_closed : goal.returns-then-not-is_closed
unfolding split_closed
returns-then-not-is_closed c =
    let are_finite : c.if-all_finite.is_finite ≡ (finite c.args.length0 && finite c.args.length1) = elim c.if-all_finite.branch [ then-all_finite w ↦ grind arith | else-all_finite w ↦ grind arith ] in
    let h = c.in_ok-curve.ensures in
    two-refused _ _ _ _ (rw (← (rw (are_finite, c.min-room.ensures, either_short) at h.entry), rw (h.lent.0, h.lent.1) at (told c.is_closed.ensures c.if-not-is_closed.true)))
