-- The hand-over record: a list of circles as one string of bytes. A byte is a number below 256. Assumes nothing.
use Rattle.std.specs.Prelude.{◌≡◌, Bool, not, ◌||◌, cond, List, [], ◌∷◌, ◌++◌, ℕ, zero, suc, ◌+◌, ◌-◌, ◌*◌, ◌/◌, ◌%◌, ◌^◌, eqb, ltb, length, drop, take, count_ones, Float, Ok, Err}
use Rattle.std.specs.Int.{Width, w16, w64, byte_len, to_le_bytes, from_le_bytes}
use Rattle.std.specs.Float.{binary64}
use Rattle.std.specs.Float.Ieee.{to_bits, of_bits}
use Rattle.std.specs.Float.Ieee.Scale.{finite}
use Rattle.errors.specs.Answer.{Answer, ◌>>=◌}
use Rattle.errors.specs.declared.Refusal.TheVariants.{BadNumber, NoRoom, RecordLength, RecordMap}
use Rattle.points.specs.Numbers.{f0}
use Rattle.curve2.specs.Entry.{tested}
use Rattle.inscribed.specs.Store.{width, numbers_of, circle_from, circles_of, bad_length, bad_store, bad_store_count, stored}
use Rattle.inscribed.specs.declared.Inscribed.{Inscribed}

-- ---- what is written, "all least significant byte first"

-- a count or a map: 16 bits
unfoldable pub short_bytes : ℕ → List ℕ
short_bytes n = to_le_bytes w16 n

-- a number's 64 bits
unfoldable pub word_bytes : ℕ → List ℕ
word_bytes n = to_le_bytes w64 n

-- "A bit stands exactly when the number's 64 bits are not all zero, so -0 is written." The logic has one NaN; its bits, as those of every NaN, are not all zero.
unfoldable pub is_zero : Float → Bool
is_zero x = eqb (to_bits binary64 x) 0

-- "Bit 0 is centre x, and so on to bit 8 in stored order."
unfoldable pub map_of : List Float → ℕ
map_of [] = 0
map_of (x ∷ xs) = cond (is_zero x) 0 1 + 2 * map_of xs

-- "only the fields whose bit stands, in stored order, eight bytes each"
unfoldable pub fields_of : List Float → List ℕ
fields_of [] = []
fields_of (x ∷ xs) = cond (is_zero x) (fields_of xs) (word_bytes (to_bits binary64 x) ++ fields_of xs)

-- "per circle a 16-bit map", and after it the fields
unfoldable pub circle_record : Inscribed → List ℕ
circle_record c = short_bytes (map_of (numbers_of c)) ++ fields_of (numbers_of c)

unfoldable pub circles_record : List Inscribed → List ℕ
circles_record [] = []
circles_record (c ∷ cs) = circle_record c ++ circles_record cs

-- "First a 16-bit count"
unfoldable pub record_of : List Inscribed → List ℕ
record_of cs = short_bytes (length cs) ++ circles_record cs

-- "The length of a record follows from how many bits stand in its maps": so many in all
unfoldable pub standing_bits : List Inscribed → ℕ
standing_bits [] = 0
standing_bits (c ∷ cs) = count_ones (map_of (numbers_of c)) + standing_bits cs

-- 4 for a stated count above what the store holds, or for "an output too short", "tested first"; then 2 for a bad circle in use
unfoldable pub write_entry : List Float → ℕ → ℕ → Answer (Unit {0})
write_entry ns count room =
    tested ((NoRoom, bad_store_count ns count || ltb room (length (record_of (circles_of ns count)))) ∷ (BadNumber, bad_store ns count) ∷ [])

unfoldable pub write_record : List Float → ℕ → ℕ → Answer (List ℕ)
write_record ns count room = write_entry ns count room >>= λ passed. Ok (record_of (circles_of ns count))

-- "Later slots and bytes stay untouched", and "no refusal changes the store or the output"
abbrev pub output_after : Answer (List ℕ) → List ℕ → List ℕ
output_after (Ok bytes) old = bytes ++ drop (length bytes) old
output_after (Err r) old = old

-- ---- what is read, "each as met from the front": a value, and the bytes behind it

-- 24: "a string that ends early"
abbrev pub number_at : Width → List ℕ → Answer (ℕ × List ℕ)
number_at w bs = cond (ltb (length bs) (byte_len w)) (Err RecordLength) (Ok (from_le_bytes w (take (byte_len w) bs), drop (byte_len w) bs))

-- places 2, 7 and 8 of a circle are its radius and its lengths along
abbrev pub is_length : ℕ → Bool
is_length i = eqb i 2 || ltb 6 i

-- "a bad number"
abbrev pub bad_field : ℕ → Float → Bool
bad_field i x = cond (is_length i) (bad_length x) (not (finite x))

-- the number of a field at place i of a circle: 25 for "a standing bit over a zero field", 2 for a bad number
unfoldable pub number_of_field : ℕ → ℕ → Answer Float
number_of_field i word =
    cond (eqb word 0) (Err RecordMap)
    (let x = of_bits binary64 word in
    cond (bad_field i x) (Err BadNumber) (Ok x))

-- "a bad number is 2 after its field is read"
unfoldable pub field_at : ℕ → List ℕ → Answer (Float × List ℕ)
field_at i bs =
    number_at w64 bs >>= λ word.
    number_of_field i word.0 >>= λ x.
    Ok (x, word.1)

-- the number at place i: "After the map come only the fields whose bit stands", and a clear bit stands for +0
unfoldable pub number_from : ℕ → ℕ → List ℕ → Answer (Float × List ℕ)
number_from i map bs = cond (eqb (map % 2) 0) (Ok (f0, bs)) (field_at i bs)

-- n numbers from place i on, by the map's bits from there on
unfoldable pub numbers_at : ℕ → ℕ → ℕ → List ℕ → Answer (List Float × List ℕ)
numbers_at zero i map bs = Ok ([], bs)
numbers_at (suc n) i map bs =
    number_from i map bs >>= λ x.
    numbers_at n (suc i) (map / 2) x.1 >>= λ xs.
    Ok (x.0 ∷ xs.0, xs.1)

-- a map with a bit for each of a circle's numbers, and no others
abbrev pub most_map : ℕ
most_map = 2 ^ width - 1

-- 25: "a map with one of bits 9 to 15"
unfoldable pub circle_read : List ℕ → Answer (Inscribed × List ℕ)
circle_read bs =
    number_at w16 bs >>= λ map.
    cond (ltb most_map map.0) (Err RecordMap)
    (numbers_at width 0 map.0 map.1 >>= λ xs.
    Ok (circle_from xs.0 0, xs.1))

unfoldable pub circles_read : ℕ → List ℕ → Answer (List Inscribed × List ℕ)
circles_read zero bs = Ok ([], bs)
circles_read (suc n) bs =
    circle_read bs >>= λ c.
    circles_read n c.1 >>= λ cs.
    Ok (c.0 ∷ cs.0, cs.1)

-- 4: "a count that can be read but doesn't fit", which comes before the circles
unfoldable pub counted_read : List ℕ → ℕ → Answer (List Inscribed × List ℕ)
counted_read bs most =
    number_at w16 bs >>= λ count.
    cond (ltb most count.0) (Err NoRoom) (circles_read count.0 count.1)

-- 24: "one with bytes left over", which come last
abbrev pub all_read : List Inscribed × List ℕ → Answer (List Inscribed)
all_read cs = cond (eqb (length cs.1) 0) (Ok cs.0) (Err RecordLength)

unfoldable pub read_record : List ℕ → ℕ → Answer (List Inscribed)
read_record bs most = counted_read bs most >>= all_read

-- the circles from the store's start on, and what stands behind them stays
abbrev pub store_after : Answer (List Inscribed) → List Float → List Float
store_after (Ok cs) old = stored cs old
store_after (Err r) old = old

-- ---- what is returned: how many bytes were written, or circles read

abbrev pub how_many : {A : Type 0} → Answer (List A) → Answer ℕ
how_many answer = answer >>= λ xs. Ok (length xs)

-- The answer r of a writer whose record, or refusal, is `answer`, and its output before and after it.
pub record Wrote (answer : Answer (List ℕ)) (old new : List ℕ) (r : Answer ℕ) : Type 0 where
  pub listed : r ≡ how_many answer
  pub output : new ≡ output_after answer old

-- The same of a reader, whose circles go into a store.
pub record ReadInto (answer : Answer (List Inscribed)) (old new : List Float) (r : Answer ℕ) : Type 0 where
  pub listed : r ≡ how_many answer
  pub store : new ≡ store_after answer old
