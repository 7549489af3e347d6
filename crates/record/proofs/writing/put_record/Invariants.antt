-- `put_record` puts circle after circle. What is left to be put, from here on, makes the whole. Assumes nothing.
use Prim.Native.Nat.{◌+◌, ◌-◌}
use lib.ListN.{length}
use Rattle.inscribed.specs.Store.{circles_from, circles_of}
use Rattle.record.specs.Record.{circles_record, record_of}
use Rattle.record.specs.Code.{placed}
use Rattle.record.proofs.Placed.{Left}
use Rattle.record.proofs.writing.put_record.Given as goal

abbrev pub invariant-loop-k : goal.invariant-loop-k
invariant-loop-k l =
    let ns = l.circles.store.now in
    let count = l.circles.count in
    let whole = record_of (circles_of ns count) in
    Left l.place (circles_record (circles_from ns l.k (count - l.k))) l.out (0 + length whole) (placed 0 whole l.fn.out)
