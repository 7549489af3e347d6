-- `map_of` takes in the bits from the last number on. Assumes nothing.
use mathlib.Core.Path.{◌≡◌}
use Prim.Native.Nat.{◌-◌}
use lib.ListN.{drop}
use Rattle.inscribed.specs.Store.{width}
use Rattle.record.specs.Record.{map_of}
use Rattle.record.proofs.writing.map_of.Given as goal

abbrev pub invariant-loop-i : goal.invariant-loop-i
invariant-loop-i l = l.map ≡ map_of (drop (width - l.i) l.numbers)
