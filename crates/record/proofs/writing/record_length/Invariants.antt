-- `record_length` adds circle after circle. Assumes nothing.
use Rattle.record.proofs.Lengths.{SumTo}
use Rattle.record.proofs.writing.record_length.Given as goal

abbrev pub invariant-loop-k : goal.invariant-loop-k
invariant-loop-k l = SumTo l.circles.store.now l.circles.count l.sum l.k
