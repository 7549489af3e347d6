-- What the entry tests tell, and what both functions return and leave. Assumes nothing.
use mathlib.Core.Path.{◌≡◌, ◌∙◌, sym}
use mathlib.Core.Bool.{Bool}
use mathlib.Core.List.{List, [], ◌∷◌, ◌++◌}
use Prim.Native.Nat.{ℕ, ◌*◌, ◌/◌, ◌%◌, ◌≤◌}
use native.Mathlib.Nat.{mul_comm}
use native.Mathlib.Omega.{arith}
use borrow.Author.Tests.{eqb-true, not-false, ltb-false}
use lib.Dec.{eqb, ltb}
use lib.ListN.{length, drop}
use Rattle.std.specs.Prelude.{Ok, Err}
use Rattle.errors.specs.declared.Refusal.{Refusal}
use Rattle.errors.specs.declared.Refusal.TheVariants.{ByteCount, NoRoom}
use Rattle.curve2.proofs.Laws.{none_bad, or_left}
use Rattle.shuffle.specs.Shuffle.{place, bad_bytes, transposed, shuffled, unshuffled, bytes_entry, output_after, Rearranged}
use Rattle.shuffle.specs.Code.{standing, Bounded, Distinct, Moved}
use Rattle.shuffle.proofs.Places.{place_below, place-back, place_distinct}
use Rattle.shuffle.proofs.MovedLaws.{moved_all}
use Rattle.shuffle.proofs.ShuffleLaws.{shuffled-length, unshuffled-length}

-- ---- the tests

abbrev tests : ℕ → ℕ → List (Refusal × Bool)
tests count room = (ByteCount, bad_bytes count) ∷ (NoRoom, ltb room count) ∷ []

module _ (count room : ℕ) (passed : bytes_entry count room ≡ Ok tt) where
  pub whole_numbers : count % 8 ≡ 0
  unfolding bytes_entry
  whole_numbers = eqb-true (count % 8) 0 (not-false (eqb (count % 8) 0) (or_left _ _ (none_bad (tests count room) passed).0))

  pub has_room : count ≤ room
  unfolding bytes_entry
  has_room = ltb-false room count (none_bad (tests count room) passed).1.0

-- ---- where bytes stand

-- the bytes of a number together
pub together_distinct : (n : ℕ) → Distinct (standing 8 1) (8 * n)
together_distinct n p q h l e = omega arith

-- like bytes together
sorted-place : (n p : ℕ) → standing 1 n p ≡ place 8 n p
sorted-place n p = omega arith

pub sorted_bounded : (n : ℕ) → Bounded (standing 1 n) (8 * n) (8 * n)
sorted_bounded n p h = rw (sorted-place n p) (place_below 8 n p (omega arith))

pub sorted_distinct : (n : ℕ) → Distinct (standing 1 n) (8 * n)
sorted_distinct n p q h l e = place_distinct 8 n p q (omega arith) (omega arith) (sym (sorted-place n p) ∙ e ∙ sorted-place n q)

-- ---- what is returned and left

module _ (f : List ℕ → List ℕ) (bs old : List ℕ) where
  pub rearranged_passed : (new : List ℕ) → Ok tt ≡ bytes_entry (length bs) (length old) → new ≡ f bs ++ drop (length (f bs)) old → Rearranged f bs old new (Ok tt)
  unfolding output_after
  rearranged_passed new passed e = record { listed = passed; output = rw (← passed) e }

  pub rearranged_refused : (r : Refusal) → Err r ≡ bytes_entry (length bs) (length old) → Rearranged f bs old old (Err r)
  unfolding output_after
  rearranged_refused r e = record { listed = e; output = rw (← e) }

module _ (bs old new : List ℕ) (passed : bytes_entry (length bs) (length old) ≡ Ok tt) (kept : length new ≡ length old) where
  abbrev n : ℕ
  n = length bs / 8

  whole : length bs % 8 ≡ 0
  whole = whole_numbers (length bs) (length old) passed

  room : length bs ≤ length old
  room = has_room (length bs) (length old) passed

  shuffled-table : Moved (standing 8 1) (standing 1 n) (8 * n) bs old new → new ≡ shuffled bs ++ drop (8 * n) old
  unfolding shuffled transposed
  shuffled-table m =
      moved_all
      (standing 8 1)
      (standing 1 n)
      bs
      old
      (8 * n)
      new
      m
      (omega (arith, room))
      kept
      (sorted_bounded n)
      (place n 8)
      (place n 8)
      (λ q h. omega (arith, place_below n 8 q h))
      (λ q h. sorted-place n (place n 8 q) ∙ place-back n 8 q h)
      (λ q h. omega arith)

  pub shuffled_moved : Moved (standing 8 1) (standing 1 n) (8 * n) bs old new → new ≡ shuffled bs ++ drop (length (shuffled bs)) old
  shuffled_moved m =
      let e : length (shuffled bs) ≡ 8 * n = omega (arith, whole, shuffled-length bs whole) in
      rw e (shuffled-table m)

  unshuffled-table : Moved (standing 1 n) (standing 8 1) (n * 8) bs old new → new ≡ unshuffled bs ++ drop (n * 8) old
  unfolding unshuffled transposed
  unshuffled-table m =
      moved_all
      (standing 1 n)
      (standing 8 1)
      bs
      old
      (n * 8)
      new
      m
      (omega (arith, room))
      kept
      (λ q h. omega arith)
      (λ q. q)
      (place 8 n)
      (λ q h. h)
      (λ q h. omega arith)
      (λ q h. sorted-place n q)

  pub unshuffled_moved : Moved (standing 1 n) (standing 8 1) (8 * n) bs old new → new ≡ unshuffled bs ++ drop (length (unshuffled bs)) old
  unshuffled_moved m =
      let e : length (unshuffled bs) ≡ n * 8 = omega (arith, whole, unshuffled-length bs whole) in
      rw e (unshuffled-table (rw (mul_comm 8 n) at m))
