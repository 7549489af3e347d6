-- `split` lets both walks put their points, and only then cleans them. Assumes nothing.
use Rattle.std.proofs.Common.{arith}
use Rattle.errors.proofs.Laws.{handed_on}
use Rattle.partitioning.proofs.PieceLaws.{two-refused, second_refused, cut-two, stretch_refused, stretch_fits, stretch_is, stretch_cut}
use Rattle.partitioning.proofs.split.Goals as goal

pub returns-in_err-a : goal.returns-in_err-a
returns-in_err-a c = rw (handed_on c.from_residual.result _ c.from_residual.ensures.1) (two-refused _ _ _ _ (rw (stretch_refused _ _ _ _ _ c.in_err-a.ensures)))

pub returns-in_err-b : goal.returns-in_err-b
returns-in_err-b c =
    rw (handed_on c.from_residual-in_err-b.result _ c.from_residual-in_err-b.ensures.1)
    (two-refused _ _ _ _ (second_refused _ _ _ (stretch_is _ _ _ _ _ c.in_ok-a.ensures) _ (stretch_refused _ _ _ _ _ c.in_err-b.ensures)))

pub cut-requires : goal.cut-requires
cut-requires c = omega (arith, stretch_fits _ _ _ _ _ c.in_ok-a.ensures c.requires.section c.well_formed.1.0.1 c.well_formed.1.1.0.1, c.requires.fits)

pub cut-requires-2 : goal.cut-requires-2
cut-requires-2 c = omega (arith, stretch_fits _ _ _ _ _ c.in_ok-b.ensures c.requires.section c.well_formed.1.1.1.0.1 c.well_formed.1.1.1.1.0.1, c.requires.fits)

pub returns : goal.returns
returns c =
    cut-two _ _ _ (stretch_is _ _ _ _ _ c.in_ok-a.ensures) _ (stretch_is _ _ _ _ _ c.in_ok-b.ensures) _ _ _ _ _ _ _
    (stretch_cut _ _ _ _ _ c.in_ok-a.ensures _ _ _ c.cut.ensures)
    (stretch_cut _ _ _ _ _ c.in_ok-b.ensures _ _ _ c.cut-2.ensures)
