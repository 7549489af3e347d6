use Rattle.record.specs.Record.{circle_record}
use Rattle.record.proofs.Words.{short_is}
use Rattle.record.proofs.Placed.{left_start, left_room, left_fits, left_put, left_last}
use Rattle.record.proofs.writing.put_circle.Goals as goal

pub put-place-requires : goal.put-place-requires
unfolding circle_record
put-place-requires c =
    rw (short_is _ _ c.to_le_bytes.ensures, c.map_of.ensures, c.numbers-numbers.ensures) (left_room c.args.at _ _ _ _ _ (left_start _ _ _ c.requires))

pub put_fields-requires : goal.put_fields-requires
unfolding circle_record
put_fields-requires c =
    let put = rw (short_is _ _ c.to_le_bytes.ensures, c.map_of.ensures, c.numbers-numbers.ensures) at c.put-place.ensures in
    rw c.numbers-numbers.ensures (left_fits _ _ _ _ _ (left_put _ _ _ _ _ _ _ _ (left_start _ _ _ c.requires) put))

pub returns : goal.returns
unfolding circle_record
returns c =
    let put = rw (short_is _ _ c.to_le_bytes.ensures, c.map_of.ensures, c.numbers-numbers.ensures) at c.put-place.ensures in
    left_last _ _ _ _ _ _ _ (left_put _ _ _ _ _ _ _ _ (left_start _ _ _ c.requires) put) (rw c.numbers-numbers.ensures at c.put_fields.ensures)
