-- `between` cleans the points that the walk put into the array. Assumes nothing.
use Rattle.std.proofs.Common.{arith}
use Rattle.errors.proofs.Laws.{handed_on}
use Rattle.partitioning.proofs.PieceLaws.{cut-refused, stretch_refused, stretch_fits, stretch_cut}
use Rattle.partitioning.proofs.between.Goals as goal

pub returns-in_err-given : goal.returns-in_err-given
returns-in_err-given c = rw (handed_on c.from_residual.result _ c.from_residual.ensures.1) (cut-refused _ _ _ (stretch_refused _ _ _ _ _ c.in_err-given.ensures))

pub cut-requires : goal.cut-requires
cut-requires c = omega (arith, stretch_fits _ _ _ _ _ c.in_ok-given.ensures c.requires.section c.well_formed.1.0.1 c.well_formed.1.1.0.1, c.requires.fits)

pub returns : goal.returns
returns c = stretch_cut _ _ _ _ _ c.in_ok-given.ensures _ _ _ c.cut.ensures
