use Prim.Native.Nat.{◌-◌}
use native.Mathlib.Omega.{arith}
use mathlib.Core.Path.{◌≡◌}
use Rattle.inscribed.proofs.StoreLaws.{length-circles}
use Rattle.record.proofs.Words.{short_is}
use Rattle.record.proofs.Lengths.{record_next, record_done}
use Rattle.record.proofs.Circles.{count_room, count_put}
use Rattle.record.proofs.Placed.{left_room, left_put, left_end}
use Rattle.record.proofs.writing.put_record.Goals as goal

pub put-place-requires : goal.put-place-requires
put-place-requires c = count_room _ _ _ _ (length-circles c.args.circles.now.store.now 0 c.args.circles.now.count) (short_is _ _ c.to_le_bytes.ensures) c.requires

pub loop-k-init : goal.loop-k-init
loop-k-init c =
    let none : c.args.circles.now.count - 0 ≡ c.args.circles.now.count = omega arith in
    rw none (count_put _ _ _ _ (length-circles c.args.circles.now.store.now 0 c.args.circles.now.count) (short_is _ _ c.to_le_bytes.ensures) c.requires _ _ c.put-place.ensures)

pub put_circle-place-requires : goal.put_circle-place-requires
put_circle-place-requires c = rw c.at.ensures (left_room _ _ _ _ _ _ (rw (record_next _ _ c.loop-k.k c.loop-k-test.true) at c.loop-k.invariant))

pub loop-k-preserved : goal.loop-k-preserved
loop-k-preserved c = left_put _ _ _ _ _ _ _ _ (rw (record_next _ _ c.loop-k.k c.loop-k-test.true) at c.loop-k.invariant) (rw c.at.ensures at c.put_circle-place.ensures)

pub returns : goal.returns
returns c = left_end _ _ _ _ (rw (record_done _ _ c.loop-k.k c.loop-k-test.false) at c.loop-k.invariant)
