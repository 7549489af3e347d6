-- `read_numbers` reads number after number. The loop keeps that those read, with what is still read, are the whole. Assumes nothing.
use mathlib.Core.Path.{◌≡◌}
use Prim.Native.Nat.{◌-◌}
use lib.ListN.{length, take}
use Rattle.inscribed.specs.Store.{width}
use Rattle.record.specs.Record.{numbers_at}
use Rattle.record.proofs.Loops.{with_front}
use Rattle.record.proofs.reading.read_numbers.Given as goal

abbrev pub invariant-loop-i : goal.invariant-loop-i
invariant-loop-i l = (length l.numbers ≡ width) × (with_front (take l.i l.numbers) (numbers_at (width - l.i) l.i l.bits l.rest) ≡ numbers_at width 0 l.map l.bytes)
