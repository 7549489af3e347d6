use native.Mathlib.Omega.{arith}
use Rattle.record.proofs.Words.{field_first, field_none, fields_done, word_is}
use Rattle.record.proofs.Placed.{left_start, left_room, left_put, left_end}
use Rattle.record.proofs.writing.put_fields.Goals.{then-bits-ne0, else-bits-ne0}
use Rattle.record.proofs.writing.put_fields.Goals as goal

pub loop-x-init : goal.loop-x-init
loop-x-init c = left_start _ _ _ c.requires

pub put-place-requires : goal.put-place-requires
put-place-requires c =
    let first = field_first c.args.numbers.now c.loop-x.x-index _ (omega (arith, c.told-numbers)) c.bits_of-bits.ensures c.if-bits-ne0.true in
    rw (word_is _ _ c.to_le_bytes.ensures) (left_room _ _ _ _ _ _ (rw first at c.loop-x.invariant))

pub loop-x-preserved : goal.loop-x-preserved
loop-x-preserved c = elim c.if-bits-ne0.branch [
  | then-bits-ne0 w ↦
      let first = field_first c.args.numbers.now c.loop-x.x-index _ (omega (arith, c.told-numbers)) c.bits_of-bits.ensures w.if-bits-ne0.true in
      rw (w.place-is, w.out-is) (left_put _ _ _ _ _ _ _ _ (rw first at c.loop-x.invariant) (rw (word_is _ _ w.to_le_bytes.ensures) at w.put-place.ensures))
  | else-bits-ne0 w ↦
      let none = field_none c.args.numbers.now c.loop-x.x-index _ (omega (arith, c.told-numbers)) c.bits_of-bits.ensures w.if-bits-ne0.false in
      rw (w.place-is, w.out-is) (rw none at c.loop-x.invariant)
]

pub returns : goal.returns
returns c = left_end _ _ _ _ (rw (fields_done c.args.numbers.now c.loop-x.x-index (omega (arith, c.told-numbers))) at c.loop-x.invariant)
