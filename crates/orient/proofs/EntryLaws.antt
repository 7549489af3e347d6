-- A store that passed the entry tests. Assumes nothing.
use mathlib.Core.Path.{◌≡◌, refl, sym}
use mathlib.Core.Bool.{Bool, ◌||◌}
use mathlib.Core.List.{List, [], ◌∷◌}
use Prim.Native.Nat.{ℕ, ◌*◌, ◌≤◌}
use native.Mathlib.Omega.{arith}
use borrow.Author.Tests.{ltb-false}
use lib.Dec.{ltb}
use lib.ListN.{length}
use lib.Ieee.{Float}
use Rattle.std.specs.Prelude.{Ok, Err}
use Rattle.errors.specs.Answer.{Answer, ◌>>=◌}
use Rattle.curve2.proofs.Laws.{none_bad}
use Rattle.inscribed.specs.Store.{width, most_slots, bad_store, bad_store_count}
use Rattle.inscribed.proofs.StoreLaws.{count_fits}
use Rattle.orient.specs.Orientation.{orient_entry}
use Rattle.errors.specs.declared.Refusal.TheVariants.{BadNumber, NoRoom, TooFewCircles}

-- ---- a store that passed

pub orient_passed : (ns : List Float) (count : ℕ) (bad : Bool) → Ok tt ≡ orient_entry ns count bad → (count * width ≤ length ns) × (1 ≤ count) × (count ≤ most_slots)
unfolding orient_entry
orient_passed ns count bad e =
    let none = none_bad ((BadNumber, bad_store ns count || bad) ∷ (NoRoom, bad_store_count ns count) ∷ (TooFewCircles, ltb count 2) ∷ []) (sym e) in
    let fits = count_fits ns count none.1.0 in
    (fits.0, omega (arith, ltb-false count 2 none.1.1.0), fits.1)

-- an answer behind the entry tests
pub asked_bounds : (ns : List Float) (count : ℕ) (bad : Bool) (more : Answer Bool) (b : Bool) → Ok b ≡ (orient_entry ns count bad >>= λ passed. more) → (count * width ≤ length ns) × (count ≤ most_slots)
asked_bounds ns count bad more b e = go (orient_entry ns count bad) refl e
  where
    go : (x : Answer (Unit {0})) → orient_entry ns count bad ≡ x → Ok b ≡ (x >>= λ passed. more) → (count * width ≤ length ns) × (count ≤ most_slots)
    go (Ok tt) p f = let h = orient_passed ns count bad (sym p) in (h.0, h.2)
    go (Err n) p f = let z : ◌≡◌ {A = ℕ} 0 1 = cc in absurd (omega arith)
