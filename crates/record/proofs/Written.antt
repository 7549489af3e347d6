-- What is written is read back. Assumes nothing.
use mathlib.Core.Path.{◌≡◌, refl, sym, ap, ◌∙◌}
use mathlib.Core.Bool.{Bool, true, false, not, ◌&&◌, ◌||◌, cond, true≢false}
use mathlib.Core.List.{List, [], ◌∷◌, ◌++◌, append_assoc, append-nil}
use Prim.Native.Nat.{ℕ, suc, ◌+◌, ◌*◌, ◌/◌, ◌%◌, ◌^◌, ◌<◌, ◌≤◌}
use native.Mathlib.Omega.{arith}
use borrow.Author.Tests.{eqb-true, le-ltb}
use lib.Dec.{T, ltb}
use lib.ListN.{length, get_or, length-append}
use lib.Ieee.{Float, binary64, nan, fits, of_bits, to_bits}
use lib.Ieee.Scale.{finite}
use lib.Ieee.Bits.{of_bits-to_bits, to_bits-lt}
use Rattle.std.specs.Prelude.{Ok}
use Rattle.std.specs.Int.{Width, w16, w64, byte_len, to_le_bytes, from_le_bytes}
use Rattle.std.proofs.lemmas.List.{take_at, drop_at}
use Rattle.std.proofs.lemmas.Nat.{from_le_bytes-to_le_bytes_2, from_le_bytes-to_le_bytes_8}
use Rattle.points.specs.Numbers.{f0}
use Rattle.curve2.proofs.Laws.{or_left, or_right}
use Rattle.inscribed.specs.Store.{width, most_slots, numbers_of, circle_from, bad_length, bad_circle, any_bad}
use Rattle.inscribed.specs.declared.Inscribed.{Inscribed}
use Rattle.record.specs.Record.{short_bytes, word_bytes, is_zero, map_of, fields_of, circle_record, circles_record, record_of, number_at, bad_field, number_of_field, field_at, number_from, numbers_at, most_map, circle_read, circles_read, counted_read, read_record}
use Rattle.record.proofs.Words.{map_below}

-- ---- counts, maps and fields

-- a number of any width, in front of what follows
number_back : (w : Width) (n : ℕ) (rest : List ℕ) → length (to_le_bytes w n) ≡ byte_len w → from_le_bytes w (to_le_bytes w n) ≡ n → number_at w (to_le_bytes w n ++ rest) ≡ Ok (n, rest)
number_back w n rest long value =
    let enough : ltb (length (to_le_bytes w n ++ rest)) (byte_len w) ≡ false = le-ltb _ _ (omega (arith, length-append (to_le_bytes w n) rest, long)) in
    rw (enough, take_at (to_le_bytes w n) rest (byte_len w) long, drop_at (to_le_bytes w n) rest (byte_len w) long) (ap (λ (k : ℕ). Ok (k, rest)) value)

short_back : (n : ℕ) (rest : List ℕ) → n < 65536 → number_at w16 (short_bytes n ++ rest) ≡ Ok (n, rest)
unfolding short_bytes
short_back n rest h = number_back w16 n rest refl (from_le_bytes-to_le_bytes_2 n h)

word_back : (n : ℕ) (rest : List ℕ) → n < 2 ^ 64 → number_at w64 (word_bytes n ++ rest) ≡ Ok (n, rest)
unfolding word_bytes
word_back n rest h = number_back w64 n rest refl (from_le_bytes-to_le_bytes_8 n h)

-- numbers from place i of a circle on that pass the test of 2, and are numbers of 64 bits
abbrev pub Good : ℕ → List Float → Type 0
Good i [] = Unit {0}
Good i (x ∷ xs) = T (fits binary64 x) × (bad_field i x ≡ false) × Good (suc i) xs

field_back : (i : ℕ) (x : Float) (rest : List ℕ) → T (fits binary64 x) → bad_field i x ≡ false → is_zero x ≡ false → field_at i (word_bytes (to_bits binary64 x) ++ rest) ≡ Ok (x, rest)
unfolding field_at number_of_field is_zero
field_back i x rest t g z = rw (word_back (to_bits binary64 x) rest (to_bits-lt binary64 x t), z, of_bits-to_bits binary64 x t, g) refl

zero_is : (x : Float) → T (fits binary64 x) → is_zero x ≡ true → f0 ≡ x
unfolding is_zero
zero_is x t z = ap (λ (w : ℕ). of_bits binary64 w) (sym (eqb-true (to_bits binary64 x) 0 z)) ∙ of_bits-to_bits binary64 x t

pub numbers_back : (i : ℕ) (xs : List Float) (rest : List ℕ) → Good i xs → numbers_at (length xs) i (map_of xs) (fields_of xs ++ rest) ≡ Ok (xs, rest)
unfolding numbers_at number_from map_of fields_of
numbers_back i [] rest good = refl
numbers_back i (x ∷ xs) rest good = go (is_zero x) refl (numbers_back (suc i) xs rest good.2)
  where
    low : (m : ℕ) → (0 + 2 * m) % 2 ≡ 0
    low m = omega arith

    high : (m : ℕ) → (1 + 2 * m) % 2 ≡ 1
    high m = omega arith

    half : (m : ℕ) → (0 + 2 * m) / 2 ≡ m
    half m = omega arith

    rest-half : (m : ℕ) → (1 + 2 * m) / 2 ≡ m
    rest-half m = omega arith

    go : (b : Bool) → is_zero x ≡ b → numbers_at (length xs) (suc i) (map_of xs) (fields_of xs ++ rest) ≡ Ok (xs, rest)
        → numbers_at (suc (length xs)) i (cond (is_zero x) 0 1 + 2 * map_of xs) (cond (is_zero x) (fields_of xs) (word_bytes (to_bits binary64 x) ++ fields_of xs) ++ rest) ≡ Ok (x ∷ xs, rest)
    go true z ih = rw (z, low (map_of xs), half (map_of xs), ih, zero_is x good.0 z) refl
    go false z ih = rw (z, high (map_of xs), rest-half (map_of xs), append_assoc (word_bytes (to_bits binary64 x)) (fields_of xs) rest, field_back i x (fields_of xs ++ rest) good.0 good.1 z, ih) refl

-- ---- a circle

-- all nine numbers of a circle are numbers of 64 bits
abbrev pub Fits : Inscribed → Type 0
Fits c = (k : ℕ) → T (fits binary64 (get_or (numbers_of c) k nan))

both_true : (a b : Bool) → not (a && b) ≡ false → (not a ≡ false) × (not b ≡ false)
both_true true true e = (refl, refl)
both_true true false e = absurd (true≢false e)
both_true false b e = absurd (true≢false e)

-- the tests of `bad_circle`, one by one
each_good : (a b c d e f r l m : Bool) → (not ((a && b) && ((c && d) && (e && f))) || (r || (l || m))) ≡ false
    → ((not a ≡ false) × (not b ≡ false) × (not c ≡ false) × (not d ≡ false) × (not e ≡ false) × (not f ≡ false)) × (r ≡ false) × (l ≡ false) × (m ≡ false)
each_good a b c d e f r l m g =
    let lengths = or_right (not ((a && b) && ((c && d) && (e && f)))) (r || (l || m)) g in
    let o = both_true (a && b) ((c && d) && (e && f)) (or_left (not ((a && b) && ((c && d) && (e && f)))) (r || (l || m)) g) in
    let center = both_true a b o.0 in
    let contacts = both_true (c && d) (e && f) o.1 in
    let p0 = both_true c d contacts.0 in
    let p1 = both_true e f contacts.1 in
    let along = or_right r (l || m) lengths in
    ((center.0, center.1, p0.0, p0.1, p1.0, p1.1), or_left r (l || m) lengths, or_left l m along, or_right l m along)

good_circle : (c : Inscribed) → Fits c → bad_circle c ≡ false → Good 0 (numbers_of c)
unfolding bad_circle numbers_of
good_circle c f b =
    let g = each_good (finite c.cx) (finite c.cy) (finite c.p0x) (finite c.p0y) (finite c.p1x) (finite c.p1y) (bad_length c.r) (bad_length c.l0) (bad_length c.l1) b in
    (f 0, g.0.0, (f 1, g.0.1, (f 2, g.1, (f 3, g.0.2, (f 4, g.0.3, (f 5, g.0.4, (f 6, g.0.5, (f 7, g.2, (f 8, g.3, tt)))))))))

-- a circle's numbers make it again
pub from_numbers : (c : Inscribed) → circle_from (numbers_of c) 0 ≡ c
unfolding circle_from numbers_of
from_numbers c = refl

numbers_few : (c : Inscribed) → map_of (numbers_of c) < 512
unfolding numbers_of
numbers_few c = map_below (numbers_of c)

circle_numbers_back : (c : Inscribed) (rest : List ℕ) → Fits c → bad_circle c ≡ false → numbers_at width 0 (map_of (numbers_of c)) (fields_of (numbers_of c) ++ rest) ≡ Ok (numbers_of c, rest)
unfolding numbers_of
circle_numbers_back c rest f b = numbers_back 0 (numbers_of c) rest (good_circle c f b)

circle_back : (c : Inscribed) (rest : List ℕ) → Fits c → bad_circle c ≡ false → circle_read (circle_record c ++ rest) ≡ Ok (c, rest)
unfolding circle_read circle_record
circle_back c rest f b =
    let map : map_of (numbers_of c) < 512 = numbers_few c in
    ap circle_read (append_assoc (short_bytes (map_of (numbers_of c))) (fields_of (numbers_of c)) rest)
    ∙ rw (
      short_back (map_of (numbers_of c)) (fields_of (numbers_of c) ++ rest) (omega (arith, map)),
      le-ltb most_map (map_of (numbers_of c)) (omega (arith, map)),
      circle_numbers_back c rest f b,
      from_numbers c,
    ) refl

-- ---- all circles

pub data AllFit : List Inscribed → Type 0 where
  none : AllFit []
  more : {c : Inscribed} {cs : List Inscribed} → Fits c → AllFit cs → AllFit (c ∷ cs)

circles_back : (cs : List Inscribed) (rest : List ℕ) → AllFit cs → any_bad cs ≡ false → circles_read (length cs) (circles_record cs ++ rest) ≡ Ok (cs, rest)
unfolding circles_read circles_record any_bad
circles_back [] rest f b = refl
circles_back (c ∷ cs) rest (more f fs) b =
    ap (circles_read (suc (length cs))) (append_assoc (circle_record c) (circles_record cs) rest)
    ∙ rw (circle_back c (circles_record cs ++ rest) f (or_left (bad_circle c) (any_bad cs) b), circles_back cs rest fs (or_right (bad_circle c) (any_bad cs) b)) refl

-- ---- the record

-- "Writing and then reading returns" the circles
pub record_back : (cs : List Inscribed) (most : ℕ) → AllFit cs → any_bad cs ≡ false → length cs ≤ most → most ≤ most_slots → read_record (record_of cs) most ≡ Ok cs
unfolding read_record counted_read record_of
record_back cs most f b fit low =
    let behind : circles_read (length cs) (circles_record cs) ≡ Ok (cs, []) = rw (append-nil (circles_record cs)) at (circles_back cs [] f b) in
    rw (short_back (length cs) (circles_record cs) (omega (arith, fit, low)), le-ltb most (length cs) fit, behind) refl
