-- `between_lengths`, `split_open_at_length` and `split_closed_at_lengths`: the entry tests, what each returns, and what it leaves in the outputs. Assumes nothing.
use Rattle.std.specs.Prelude.{◌≡◌, Bool, false, not, ◌&&◌, ◌||◌, cond, List, ℕ, ◌+◌, ltb, length, Float, Ok, Err}
use Rattle.std.specs.Float.Ieee.Scale.{finite}
use Rattle.errors.specs.Answer.{Answer, ◌>>=◌}
use Rattle.points.specs.Numbers.{f0}
use Rattle.points.specs.declared.Point2.{Point2}
use Rattle.curve2.specs.Section.{is_closed, whole_length, ends_meet}
use Rattle.curve2.specs.Entry.{bad_count, section_entry}
use Rattle.cleaning.specs.Cleaning.{kept, most_cleaned, output_after}
use Rattle.partitioning.specs.Walk.{given_of}
use Rattle.partitioning.specs.declared.Piece.{Piece}
use Rattle.partitioning.specs.declared.Pieces.{Pieces}
use Rattle.errors.specs.declared.Refusal.TheVariants.{PointCount, WrongKind}

-- ---- a piece

-- the piece's points, and how many points the walk gave the cleaning
pub record Stretch : Type 0 where
  pub points : List Point2
  pub given : ℕ

-- "Curve2::from_points(&points, self.tol, false)": the piece is what cleaning keeps of the points given
abbrev pub cleaned_stretch : Float → List Point2 → Stretch
cleaned_stretch tol ps = record { points = kept tol ps; given = length ps }

unfoldable pub stretch_of : List Float → Float → Float → Float → Answer Stretch
stretch_of ns tol l0 l1 = given_of ns tol l0 l1 >>= λ ps. Ok (cleaned_stretch tol ps)

-- both pieces of a split, the first before the second
pub record Halves : Type 0 where
  pub first : Stretch
  pub second : Stretch

abbrev pub both_of : Answer Stretch → Answer Stretch → Answer Halves
both_of a b = a >>= λ first. b >>= λ second. Ok (record { first = first; second = second })

-- ---- the entry tests

-- 4: "cleaning's rule for each output's length"
abbrev pub is_short : List Float → ℕ → Bool
is_short ns room = ltb room (length ns + 2)

-- "Entry checks are a section's, with at most 4,095 points"; `good` says that the lengths are finite (2), `short` that an output is too short (4)
unfoldable pub stretch_entry : List Float → Float → Bool → Bool → Answer (Unit {0})
stretch_entry ns tol good short =
    cond (bad_count most_cleaned (length ns)) (Err PointCount)
    (section_entry ns tol (record { number = not good; tolerance = false; finer = false; room = short; state = false }))

-- ---- the entry points; `room` is the length of an output

unfoldable pub between_lengths : List Float → Float → Float → Float → ℕ → Answer Stretch
between_lengths ns tol l0 l1 room = stretch_entry ns tol (finite l0 && finite l1) (is_short ns room) >>= λ passed. stretch_of ns tol l0 l1

-- "number 22 when a split is asked of the wrong kind of section"; "between_lengths(0.0, length)" and "between_lengths(length, self.length())"
unfoldable pub split_open : List Float → Float → Float → ℕ → ℕ → Answer Halves
split_open ns tol l room0 room1 =
    stretch_entry ns tol (finite l) (is_short ns room0 || is_short ns room1) >>= λ passed.
    cond (is_closed ns tol) (Err WrongKind) (both_of (stretch_of ns tol f0 l) (stretch_of ns tol l (whole_length ns)))

-- "between_lengths(length0, length1)" and "between_lengths(length1, length0)"
unfoldable pub split_closed : List Float → Float → Float → Float → ℕ → ℕ → Answer Halves
split_closed ns tol l0 l1 room0 room1 =
    stretch_entry ns tol (finite l0 && finite l1) (is_short ns room0 || is_short ns room1) >>= λ passed.
    cond (is_closed ns tol) (both_of (stretch_of ns tol l0 l1) (stretch_of ns tol l1 l0)) (Err WrongKind)

-- ---- what is returned

-- the piece's count of points, whether it is closed, and the count of points given
abbrev pub piece_told : Float → Stretch → Piece
piece_told tol s = record { count = length s.points; is_closed = ends_meet tol s.points; given = s.given }

unfoldable pub piece_answer : Float → Answer Stretch → Answer Piece
piece_answer tol answer = answer >>= λ s. Ok (piece_told tol s)

unfoldable pub pieces_answer : Float → Answer Halves → Answer Pieces
pieces_answer tol answer = answer >>= λ h. Ok (record { first = piece_told tol h.first; second = piece_told tol h.second })

-- ---- what the outputs hold then: the piece from the start on; "no refusal here changes memory", and "a refusal of either piece leaves both"

unfoldable pub stretch_after : Answer Stretch → List Float → List Float
stretch_after answer old = output_after (answer >>= λ s. Ok s.points) old

unfoldable pub first_after : Answer Halves → List Float → List Float
first_after answer old = output_after (answer >>= λ h. Ok h.first.points) old

unfoldable pub second_after : Answer Halves → List Float → List Float
second_after answer old = output_after (answer >>= λ h. Ok h.second.points) old

-- Both together: the answer r of a call whose piece, or refusal, is `answer`, and its output before and after it.
pub record Cut (answer : Answer Stretch) (tol : Float) (old new : List Float) (r : Answer Piece) : Type 0 where
  pub listed : r ≡ piece_answer tol answer
  pub output : new ≡ stretch_after answer old

-- The same of a split with its two outputs.
pub record CutInTwo (answer : Answer Halves) (tol : Float) (old0 new0 old1 new1 : List Float) (r : Answer Pieces) : Type 0 where
  pub listed : r ≡ pieces_answer tol answer
  pub first : new0 ≡ first_after answer old0
  pub second : new1 ≡ second_after answer old1
