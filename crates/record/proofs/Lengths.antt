-- How long a record is, by the bits that stand in its maps, and the longest. Assumes nothing.
use mathlib.Core.Path.{◌≡◌, refl, ap, ◌∙◌}
use mathlib.Core.Bool.{Bool, true, false, cond}
use mathlib.Core.List.{List, [], ◌∷◌, ◌++◌, append-nil}
use Prim.Native.Nat.{ℕ, zero, suc, ◌+◌, ◌-◌, ◌*◌, ◌/◌, ◌%◌, ◌≤◌, ◌<◌}
use native.Mathlib.Omega.{arith}
use lib.Count.{ones, ones_step}
use lib.ListN.{length, length-append, replicate, length-replicate}
use lib.Ieee.{Float, binary64, to_bits, of_bits, lt}
use Rattle.std.proofs.lemmas.List.{replicate-append-replicate}
use Rattle.inscribed.specs.Store.{width, most_slots, numbers_of, circle_at, circles_from, circles_of, all_numbers, bad_circle, any_bad}
use Rattle.inscribed.specs.declared.Inscribed.{Inscribed}
use Rattle.inscribed.proofs.StoreLaws.{circles-stored}
use Rattle.points.specs.Numbers.{f1}
use Rattle.record.specs.Record.{short_bytes, word_bytes, is_zero, map_of, fields_of, circle_record, circles_record, record_of, standing_bits}
use Rattle.record.specs.Law.{most_record}

pub short_length : (n : ℕ) → length (short_bytes n) ≡ 2
unfolding short_bytes
short_length n = refl

pub word_length : (n : ℕ) → length (word_bytes n) ≡ 8
unfolding word_bytes
word_length n = refl

ones-more : (b m : ℕ) → b < 2 → ones (b + 2 * m) ≡ b + ones m
ones-more b m h =
    let low : (b + 2 * m) % 2 ≡ b = omega (arith, h) in
    let high : (b + 2 * m) / 2 ≡ m = omega (arith, h) in
    rw (low, high) at (ones_step (b + 2 * m))

-- eight bytes for each bit that stands, and as many bits as numbers at most
pub fields_length : (xs : List Float) → (length (fields_of xs) ≡ 8 * ones (map_of xs)) × (ones (map_of xs) ≤ length xs)
unfolding fields_of map_of ones
fields_length [] = (refl, omega arith)
fields_length (x ∷ xs) = go (is_zero x) (fields_length xs)
  where
    go : (z : Bool) → (length (fields_of xs) ≡ 8 * ones (map_of xs)) × (ones (map_of xs) ≤ length xs)
        → (length (cond z (fields_of xs) (word_bytes (to_bits binary64 x) ++ fields_of xs)) ≡ 8 * ones (cond z 0 1 + 2 * map_of xs)) × (ones (cond z 0 1 + 2 * map_of xs) ≤ suc (length xs))
    go true ih = rw (ones-more 0 (map_of xs) (omega arith)) (omega (arith, ih.0), omega (arith, ih.1))
    go false ih = rw (ones-more 1 (map_of xs) (omega arith), length-append (word_bytes (to_bits binary64 x)) (fields_of xs), word_length (to_bits binary64 x)) (omega (arith, ih.0), omega (arith, ih.1))

pub circle_length : (c : Inscribed) → (length (circle_record c) ≡ 2 + 8 * ones (map_of (numbers_of c))) × (ones (map_of (numbers_of c)) ≤ width)
unfolding circle_record numbers_of
circle_length c =
    let f = fields_length (numbers_of c) in
    let all = length-append (short_bytes (map_of (numbers_of c))) (fields_of (numbers_of c)) in
    (omega (arith, f.0, all, short_length (map_of (numbers_of c))), f.1)

-- ---- the whole

circles_length : (cs : List Inscribed) → (length (circles_record cs) ≡ 2 * length cs + 8 * standing_bits cs) × (standing_bits cs ≤ width * length cs)
unfolding circles_record standing_bits
circles_length [] = (refl, omega arith)
circles_length (c ∷ cs) =
    let one = circle_length c in
    let rest = circles_length cs in
    (omega (arith, length-append (circle_record c) (circles_record cs), one.0, rest.0), omega (arith, one.1, rest.1))

-- two bytes, two for each circle, and eight for each bit that stands
pub record_length : (cs : List Inscribed) → length (record_of cs) ≡ 2 + 2 * length cs + 8 * standing_bits cs
unfolding record_of
record_length cs = omega (arith, length-append (short_bytes (length cs)) (circles_record cs), short_length (length cs), (circles_length cs).0)

pub longest_record : (cs : List Inscribed) → length cs ≤ most_slots → length (record_of cs) ≤ most_record
longest_record cs h = omega (arith, record_length cs, (circles_length cs).1, h)

-- ---- circles whose numbers are all 1: none is bad, and every bit of their maps stands

pub unit_circle : Inscribed
unit_circle = record { cx = f1; cy = f1; r = f1; p0x = f1; p0y = f1; p1x = f1; p1y = f1; l0 = f1; l1 = f1 }

unit_ones : ones (map_of (numbers_of unit_circle)) ≡ 9
unfolding unit_circle numbers_of map_of is_zero to_bits of_bits ones
unit_ones = refl

units_ones : (n : ℕ) → standing_bits (replicate n unit_circle) ≡ 9 * n
unfolding standing_bits
units_ones zero = omega arith
units_ones (suc n) = omega (arith, unit_ones, units_ones n)

pub units_length : (n : ℕ) → length (record_of (replicate n unit_circle)) ≡ 2 + 74 * n
units_length n = omega (arith, record_length (replicate n unit_circle), length-replicate n unit_circle, units_ones n)

unit_good : bad_circle unit_circle ≡ false
unfolding unit_circle bad_circle of_bits lt
unit_good = refl

pub units_good : (n : ℕ) → any_bad (replicate n unit_circle) ≡ false
unfolding any_bad
units_good zero = refl
units_good (suc n) = rw (unit_good, units_good n) refl

unit_numbers : numbers_of unit_circle ≡ replicate width f1
unfolding unit_circle numbers_of
unit_numbers = refl

units_numbers : (n : ℕ) → all_numbers (replicate n unit_circle) ≡ replicate (width * n) f1
unfolding all_numbers
units_numbers zero = refl
units_numbers (suc n) =
    ap (λ (xs : List Float). numbers_of unit_circle ++ xs) (units_numbers n)
    ∙ ap (λ (xs : List Float). xs ++ replicate (width * n) f1) unit_numbers
    ∙ replicate-append-replicate width (width * n) f1
    ∙ ap (λ (k : ℕ). replicate k f1) (omega arith)

pub units_stored : (n : ℕ) → circles_of (replicate (width * n) f1) n ≡ replicate n unit_circle
units_stored n =
    rw (append-nil (all_numbers (replicate n unit_circle)), units_numbers n, length-replicate n unit_circle) at (circles-stored (replicate n unit_circle) [])

-- ---- circles from one of a store on: the first, then the others

pub record_next : (ns : List Float) (count k : ℕ) → k < count → circles_record (circles_from ns k (count - k)) ≡ circle_record (circle_at ns k) ++ circles_record (circles_from ns (k + 1) (count - (k + 1)))
unfolding circles_record circles_from
record_next ns count k h =
    let left : count - k ≡ suc (count - (k + 1)) = omega (arith, h) in
    let next : k + 1 ≡ suc k = omega arith in
    rw (left, next) refl

pub record_done : (ns : List Float) (count k : ℕ) → count ≤ k → circles_record (circles_from ns k (count - k)) ≡ []
unfolding circles_record circles_from
record_done ns count k h = let none : count - k ≡ 0 = omega (arith, h) in rw none refl

-- ---- the loop of `record_length`: what is left, with the sum so far, makes the whole

abbrev pub SumTo : List Float → ℕ → ℕ → ℕ → Type 0
SumTo ns count sum k = (sum + length (circles_record (circles_from ns k (count - k))) ≡ length (record_of (circles_of ns count))) × (sum ≤ 2 + 74 * k)

pub sum_start : (ns : List Float) (count : ℕ) → SumTo ns count 2 0
unfolding record_of
sum_start ns count = let all : count - 0 ≡ count = omega arith in (rw all (omega (arith, length-append (short_bytes (length (circles_of ns count))) (circles_record (circles_of ns count)), short_length (length (circles_of ns count)))), omega arith)

pub sum_next : (ns : List Float) (count sum k : ℕ) → k < count → SumTo ns count sum k → SumTo ns count (sum + length (circle_record (circle_at ns k))) (k + 1)
sum_next ns count sum k h s =
    let c = circle_length (circle_at ns k) in
    let before = rw (record_next ns count k h) at s.0 in
    (omega (arith, before, length-append (circle_record (circle_at ns k)) (circles_record (circles_from ns (k + 1) (count - (k + 1))))), omega (arith, s.1, c.0, c.1))

pub circle_short : (c : Inscribed) → length (circle_record c) ≤ 74
circle_short c = omega (arith, (circle_length c).0, (circle_length c).1)

pub sum_end : (ns : List Float) (count sum k : ℕ) → count ≤ k → SumTo ns count sum k → sum ≡ length (record_of (circles_of ns count))
sum_end ns count sum k h s = omega (arith, rw (record_done ns count k h) at s.0)
