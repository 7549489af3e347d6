use Rattle.errors.proofs.Laws.{handed_on}
use Rattle.record.proofs.Entries.{has_room, wrote_passed, wrote_refused}
use Rattle.record.proofs.write_record.Goals as goal

pub returns-in_err-circles : goal.returns-in_err-circles
returns-in_err-circles c = rw (handed_on _ _ c.from_residual.ensures.1) (wrote_refused _ _ _ _ c.in_err-circles.ensures.entry)

pub put_record-requires : goal.put_record-requires
put_record-requires c = rw (c.in_ok-circles.ensures.lent.0, c.in_ok-circles.ensures.lent.1) (has_room _ _ _ c.in_ok-circles.ensures.entry)

pub returns : goal.returns
returns c = wrote_passed _ _ _ _ _ c.in_ok-circles.ensures.entry (rw (c.in_ok-circles.ensures.lent.0, c.in_ok-circles.ensures.lent.1) at c.put_record.ensures)
