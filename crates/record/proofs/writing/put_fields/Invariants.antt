-- `put_fields` puts field after field. What is left to be put, from here on, makes the whole. Assumes nothing.
use Prim.Native.Nat.{◌+◌}
use lib.ListN.{length, drop}
use Rattle.record.specs.Record.{fields_of}
use Rattle.record.specs.Code.{placed}
use Rattle.record.proofs.Placed.{Left}
use Rattle.record.proofs.writing.put_fields.Given as goal

abbrev pub invariant-loop-x : goal.invariant-loop-x
invariant-loop-x l = Left l.place (fields_of (drop l.x-index l.numbers)) l.out (l.at + length (fields_of l.numbers)) (placed l.at (fields_of l.numbers) l.initial.out)
