-- `read_circles` reads circle after circle. The loop keeps that those read, with what is still read, are the whole. Assumes nothing.
use mathlib.Core.Path.{◌≡◌}
use Prim.Native.Nat.{◌-◌}
use lib.ListN.{length}
use Rattle.record.specs.Record.{circles_read}
use Rattle.record.proofs.Loops.{with_front}
use Rattle.record.proofs.reading.read_circles.Given as goal

abbrev pub invariant-loop : goal.invariant-loop
invariant-loop l = (length l.circles.items ≡ l.counter) × (with_front l.circles.items (circles_read (l.count - l.counter) l.rest) ≡ circles_read l.count l.bytes)
