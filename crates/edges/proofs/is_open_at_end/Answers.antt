-- `is_open_at_end` tested the count on entry. Assumes nothing.
use mathlib.Core.Path.{sym}
use native.Mathlib.Omega.{arith}
use Rattle.edges.proofs.EntryLaws.{entry_count}
use Rattle.edges.proofs.is_open_at_end.Goals as goal

pub invariant_of-is_beyond_end : goal.invariant_of-is_beyond_end
invariant_of-is_beyond_end c =
    let fits = entry_count _ _ (sym (rw c.in_ok-curve.was at c.entered.ensures.entry)) in
    record { in_store = omega (arith, fits); few = omega (arith, fits) }
