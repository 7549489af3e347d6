-- A store that passed its entry tests. Assumes nothing.
use mathlib.Core.Path.{◌≡◌, sym}
use mathlib.Core.List.{List, [], ◌∷◌}
use Prim.Native.Nat.{ℕ, ◌*◌, ◌≤◌}
use lib.ListN.{length}
use lib.Ieee.{Float}
use Rattle.std.specs.Prelude.{Ok}
use Rattle.curve2.proofs.Laws.{none_bad}
use Rattle.inscribed.specs.Store.{width, most_slots, bad_store, bad_store_count}
use Rattle.inscribed.proofs.StoreLaws.{count_fits}
use Rattle.lists.specs.Asked.{store_entry}
use Rattle.errors.specs.declared.Refusal.TheVariants.{BadNumber, NoRoom}

-- ---- a store that passed

pub store_passed : (ns : List Float) (count : ℕ) → Ok tt ≡ store_entry ns count → (count * width ≤ length ns) × (count ≤ most_slots)
unfolding store_entry
store_passed ns count e = count_fits ns count (none_bad ((BadNumber, bad_store ns count) ∷ (NoRoom, bad_store_count ns count) ∷ []) (sym e)).1.0
