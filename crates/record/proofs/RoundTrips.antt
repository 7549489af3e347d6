-- Both round trips, and how long a record is, of the two entry points' definitions. Assumes nothing.
use mathlib.Core.Path.{◌≡◌, refl, ap}
use mathlib.Core.Bool.{Bool, false, ◌||◌}
use mathlib.Core.List.{List, [], ◌∷◌, ◌++◌}
use Prim.Native.Nat.{ℕ, zero, suc, ◌+◌, ◌*◌, ◌≤◌}
use native.Mathlib.Omega.{arith}
use borrow.Author.Tests.{ltb-false, le-ltb}
use lib.Dec.{T, ltb}
use lib.ListN.{length, get_or, take, drop, replicate, length-replicate}
use lib.Ieee.{Float, binary64, nan, fits}
use Rattle.std.specs.Prelude.{Ok, min}
use Rattle.errors.specs.declared.Refusal.TheVariants.{BadNumber, NoRoom}
use Rattle.errors.proofs.Laws.{given, ok_is}
use Rattle.curve2.specs.Entry.{tested}
use Rattle.curve2.proofs.Laws.{none_bad, or_left}
use Rattle.inscribed.specs.Store.{width, most_slots, slots, numbers_of, circle_from, circle_at, circles_from, circles_of, stored, any_bad, bad_store, bad_store_count}
use Rattle.inscribed.specs.declared.Inscribed.{Inscribed}
use Rattle.inscribed.proofs.StoreLaws.{length-circles, stored_length, numbers_of-circles, circles_of-stored, count_fits}
use Rattle.points.specs.Numbers.{f1}
use Rattle.record.specs.Record.{record_of, write_entry, write_record, read_record, store_after, how_many}
use Rattle.record.specs.Law.{WrittenLaw, ReadLaw, LengthLaw, most_record}
use Rattle.record.proofs.Lengths.{record_length, longest_record, unit_circle, units_length, units_good, units_stored}
use Rattle.record.proofs.Written.{Fits, AllFit, none, more, record_back}
use Rattle.record.proofs.Read.{IsBytes, Accepted, accepted}

-- a store of numbers of 64 bits
abbrev pub AreDoubles : List Float → Type 0
AreDoubles ns = (i : ℕ) → T (fits binary64 (get_or ns i nan))

slot_fits : (ns : List Float) (k : ℕ) → AreDoubles ns → Fits (circle_at ns k)
unfolding numbers_of circle_from fits
slot_fits ns k d zero = d (k * width)
slot_fits ns k d (suc zero) = d (k * width + 1)
slot_fits ns k d (suc (suc zero)) = d (k * width + 2)
slot_fits ns k d (suc (suc (suc zero))) = d (k * width + 3)
slot_fits ns k d (suc (suc (suc (suc zero)))) = d (k * width + 4)
slot_fits ns k d (suc (suc (suc (suc (suc zero))))) = d (k * width + 5)
slot_fits ns k d (suc (suc (suc (suc (suc (suc zero)))))) = d (k * width + 6)
slot_fits ns k d (suc (suc (suc (suc (suc (suc (suc zero))))))) = d (k * width + 7)
slot_fits ns k d (suc (suc (suc (suc (suc (suc (suc (suc zero)))))))) = d (k * width + 8)
slot_fits ns k d (suc (suc (suc (suc (suc (suc (suc (suc (suc i))))))))) = tt

all_fit : (ns : List Float) (k n : ℕ) → AreDoubles ns → AllFit (circles_from ns k n)
unfolding circles_from
all_fit ns k zero d = none
all_fit ns k (suc n) d = more (slot_fits ns k d) (all_fit ns (suc k) n d)

-- ---- what a writer that refuses nothing tells

module _ (ns : List Float) (count room : ℕ) (bs : List ℕ) (e : write_record ns count room ≡ Ok bs) where
  abbrev cs : List Inscribed
  cs = circles_of ns count

  written : (u : Unit {0}) × (write_entry ns count room ≡ Ok u) × (record_of cs ≡ bs)
  unfolding write_record
  written = let w = given (write_entry ns count room) (λ passed. Ok (record_of cs)) bs e in (w.value, w.is, ok_is (record_of cs) bs w.gives)

  tests : (bad_store_count ns count || ltb room (length (record_of cs)) ≡ false) × (bad_store ns count ≡ false)
  unfolding write_entry
  tests = let t = none_bad ((NoRoom, bad_store_count ns count || ltb room (length (record_of cs))) ∷ (BadNumber, bad_store ns count) ∷ []) written.1 in (t.0, t.1.0)

  none_is_bad : any_bad cs ≡ false
  none_is_bad =
      let h = ltb-false (slots ns) count (or_left _ _ tests.0) in
      let m : min count (slots ns) ≡ count = omega (arith, h) in
      rw m at tests.1

  few : count ≤ slots ns
  few = ltb-false (slots ns) count (or_left _ _ tests.0)

  module _ (other : List Float) (d : AreDoubles ns) (fit : count ≤ slots other) where
    read_back : read_record bs (slots other) ≡ Ok cs
    read_back =
        let long = length-circles ns 0 count in
        rw (← written.2) (record_back cs (slots other) (all_fit ns 0 count d) none_is_bad (omega (arith, long, fit)) (omega arith))

    stored_back : stored cs other ≡ take (width * count) ns ++ drop (width * count) other
    unfolding stored
    stored_back =
        let bounds = (count_fits ns count (or_left _ _ tests.0)).0 in
        rw (length-circles ns 0 count, numbers_of-circles ns count (omega (arith, bounds)))

    pub written_law : WrittenLaw ns count bs other
    written_law = record { circles = read_back; store = rw read_back stored_back }

  pub length_law : LengthLaw ns count bs
  length_law =
      let long = length-circles ns 0 count in
      rw (← written.2) (record { counted = rw (record_length cs, long); longest = longest_record cs (omega (arith, long, few)) })

-- ---- every accepted string

all_passed : (a b c : Bool) → a ≡ false → b ≡ false → c ≡ false → tested ((NoRoom, a || b) ∷ (BadNumber, c) ∷ []) ≡ Ok tt
all_passed a b c p q r = rw (p, q, r) refl

-- the writer accepts circles that are not bad, in a store that holds them
module _ (ns : List Float) (cs : List Inscribed) (room : ℕ) (held : circles_of ns (length cs) ≡ cs) (few : length cs ≤ slots ns) (good : any_bad cs ≡ false) (fit : length (record_of cs) ≤ room) where
  none_bad_held : bad_store ns (length cs) ≡ false
  none_bad_held = let m : min (length cs) (slots ns) ≡ length cs = omega (arith, few) in rw (m, held) good

  room_held : ltb room (length (record_of (circles_of ns (length cs)))) ≡ false
  room_held = rw held (le-ltb room (length (record_of cs)) fit)

  entry_passed : write_entry ns (length cs) room ≡ Ok tt
  unfolding write_entry
  entry_passed = all_passed (bad_store_count ns (length cs)) (ltb room (length (record_of (circles_of ns (length cs))))) (bad_store ns (length cs)) (le-ltb (slots ns) (length cs) few) room_held none_bad_held

  pub write_held : write_record ns (length cs) room ≡ Ok (record_of cs)
  unfolding write_record
  write_held = rw (entry_passed, held) refl

module _ (bs : List ℕ) (store : List Float) (cs : List Inscribed) (b : IsBytes bs) (e : read_record bs (slots store) ≡ Ok cs) where
  known : Accepted bs (slots store) cs
  known = accepted bs (slots store) cs b e

  written_again : (room : ℕ) → length bs ≤ room → write_record (store_after (read_record bs (slots store)) store) (length cs) room ≡ Ok bs
  written_again room fit =
      let long = stored_length cs store (omega (arith, known.few)) in
      let held : slots (stored cs store) ≡ slots store = rw long refl in
      rw (e, ← known.string) (write_held (stored cs store) cs room (circles_of-stored cs store) (rw held known.few) known.good (rw known.string fit))

  pub read_law : ReadLaw bs store cs
  read_law = record { string = known.string; written = written_again }

-- ---- the longest

-- of n circles whose numbers are all 1
units_written : (n : ℕ) → n ≤ most_slots → write_record (replicate (width * n) f1) n (2 + 74 * n) ≡ Ok (record_of (replicate n unit_circle))
units_written n fit =
    let long : length (replicate n unit_circle) ≡ n = length-replicate n unit_circle in
    let numbers : length (replicate (width * n) f1) ≡ width * n = length-replicate (width * n) f1 in
    let held : circles_of (replicate (width * n) f1) (length (replicate n unit_circle)) ≡ replicate n unit_circle = rw long (units_stored n) in
    rw long at (write_held (replicate (width * n) f1) (replicate n unit_circle) (2 + 74 * n) held (omega (arith, long, numbers, fit)) (units_good n) (omega (arith, units_length n)))

pub longest_written : how_many (write_record (replicate (width * most_slots) f1) most_slots most_record) ≡ Ok most_record
longest_written = rw (units_written most_slots (omega arith)) (ap (λ (k : ℕ). Ok k) (units_length most_slots))
