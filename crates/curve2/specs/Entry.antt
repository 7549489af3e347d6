-- The entry tests: "1 to 6 are tested on entry in number order", and 23 "straight after 3 and before 4". Each is a number and whether its test fails; the first that fails is the answer.
-- A call that hands in more than a section adds to the tests of 2, 3 and 4 what fails of its other arguments, and a call that isn't held to 23 has false there. Assumes nothing.
use Rattle.std.specs.Prelude.{◌≡◌, Bool, false, not, ◌&&◌, ◌||◌, cond, List, [], ◌∷◌, ℕ, ◌*◌, ◌/◌, ◌%◌, ◌≤◌, eqb, ltb, length, Float, Ok, Err}
use Rattle.std.specs.Float.Ieee.{neg, lt, le, of_bits}
use Rattle.std.specs.Float.{binary64}
use Rattle.errors.specs.Answer.{Answer}
use Rattle.points.specs.Numbers.{f0}
use Rattle.points.specs.declared.Point2.{Point2}
use Rattle.curve2.specs.Section.{points_of, plain_dist, lengths_of}
use Rattle.curve2.specs.declared.AlsoBad.{AlsoBad}
use Rattle.errors.specs.declared.Refusal.{Refusal}
use Rattle.errors.specs.declared.Refusal.TheVariants.{BadNumber, BadState, FinerThanSection, NoRoom, NotSpaced, PointCount, Tolerance}

abbrev pub tested : List (Refusal × Bool) → Answer (Unit {0})
tested [] = Ok tt
tested (t ∷ ts) = cond t.1 (Err t.0) (tested ts)

-- 1,000,000
abbrev pub million : Float
million = of_bits binary64 0x412e_8480_0000_0000

-- ---- the tests of a section

-- the 4,096 points that a section has at most
abbrev pub most_points : ℕ
most_points = 4096

-- 1: "odd count of numbers, fewer than 2 points, or over 4,096"
abbrev pub bad_count : ℕ → ℕ → Bool
bad_count most n = not (eqb (n % 2) 0) || (ltb (n / 2) 2 || ltb most (n / 2))

-- 2: "isn't finite", or "a coordinate beyond 1,000,000 in size"
abbrev pub in_range : Float → Bool
in_range x = le (neg million) x && le x million

unfoldable pub bad_numbers : List Float → Bool
bad_numbers [] = false
bad_numbers (x ∷ ns) = not (in_range x) || bad_numbers ns

-- 3: "section tolerance outside 0 to 1,000,000 .. ends allowed, NaN outside"
abbrev pub bad_tolerance : Float → Bool
bad_tolerance tol = not (le f0 tol && le tol million)

-- 1e-6 and 1,000
abbrev pub least_tol : Float
least_tol = of_bits binary64 0x3eb0_c6f7_a0b5_ed8d

abbrev pub most_tol : Float
most_tol = of_bits binary64 0x408f_4000_0000_0000

-- 3: "general tolerance outside 1e-6 to 1,000, ends allowed, NaN outside"
abbrev pub bad_general : Float → Bool
bad_general tol = not (le least_tol tol && le tol most_tol)

-- 23: "A general tolerance smaller than the section tolerance"; "marches, refinements and edge fits are held to this"
abbrev pub finer_general : Float → Float → Bool
finer_general section_tol tol = lt tol section_tol

-- 6: "neighbouring points no farther apart than the section tolerance,
unfoldable pub crowded : Float → List Point2 → Bool
crowded tol [] = false
crowded tol (p ∷ []) = false
crowded tol (p ∷ (q ∷ ps)) = le (plain_dist q p) tol || crowded tol (q ∷ ps)

-- or summed lengths that don't strictly rise"
unfoldable pub not_rising : List Float → Bool
not_rising [] = false
not_rising (l ∷ []) = false
not_rising (l ∷ (m ∷ ls)) = not (lt l m) || not_rising (m ∷ ls)

abbrev pub not_spaced : List Float → Float → Bool
not_spaced ns tol = crowded tol (points_of ns) || not_rising (lengths_of (points_of ns))

-- ---- all of them

abbrev pub section_tests : List Float → Float → AlsoBad → List (Refusal × Bool)
section_tests ns tol also =
    (PointCount, bad_count most_points (length ns))
    ∷ (BadNumber, bad_numbers ns || also.number)
    ∷ (Tolerance, bad_tolerance tol || also.tolerance)
    ∷ (FinerThanSection, also.finer)
    ∷ (NoRoom, also.room)
    ∷ (BadState, also.state)
    ∷ (NotSpaced, not_spaced ns tol)
    ∷ []

unfoldable pub section_entry : List Float → Float → AlsoBad → Answer (Unit {0})
section_entry ns tol also = tested (section_tests ns tol also)

-- ---- what passing them tells

-- From 2 to 4,096 whole points: this is what the steps on a section ask for.
pub record HasPoints (ns : List Float) : Type 0 where
  pub even : length ns % 2 ≡ 0
  pub least : 4 ≤ length ns
  pub most : length ns ≤ 2 * most_points

-- All that the tests tell of a section alone. No function asks for it; the law of a cleaned curve speaks of it.
pub record IsSection (ns : List Float) (tol : Float) : Type 0 where
  pub points : HasPoints ns
  pub numbers : bad_numbers ns ≡ false
  pub tolerance : bad_tolerance tol ≡ false
  pub spaced : not_spaced ns tol ≡ false
