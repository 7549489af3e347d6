-- A refusal of the entry tests. Assumes nothing.
use Rattle.std.proofs.Common.{◌≡◌, ◌&&◌, arith}
use lib.Ieee.Scale.{finite}
use Rattle.errors.proofs.Laws.{handed_on}
use Rattle.partitioning.specs.Pieces.{between_lengths}
use Rattle.partitioning.proofs.PieceLaws.{cut-refused}
use Rattle.partitioning.proofs.between_lengths.Goals.{then-all_finite, else-all_finite}
use Rattle.partitioning.proofs.between_lengths.Goals as goal

pub returns-in_err-curve : goal.returns-in_err-curve
unfolding between_lengths
returns-in_err-curve c =
    let are_finite : c.if-all_finite.is_finite ≡ (finite c.args.l0 && finite c.args.l1) = elim c.if-all_finite.branch [ then-all_finite w ↦ grind arith | else-all_finite w ↦ grind arith ] in
    rw (handed_on c.from_residual.result _ c.from_residual.ensures.1) (cut-refused _ _ _ (rw (← (rw are_finite at c.in_err-curve.ensures.entry))))
