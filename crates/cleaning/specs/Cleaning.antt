-- `Curve2::from_points`: cleaning a list of points into a curve, and `reversed`; what each returns, and what it leaves in the output. Assumes nothing.
use Rattle.std.specs.Prelude.{◌≡◌, Bool, false, cond, List, [], ◌∷◌, ◌++◌, reverse, ℕ, ◌+◌, ◌-◌, ◌*◌, ltb, length, drop, Float, Ok, Err}
use Rattle.std.specs.Float.Ieee.{le}
use Rattle.errors.specs.Answer.{Answer, ◌>>=◌}
use Rattle.errors.specs.declared.Refusal.TheVariants.{BadNumber, NoRoom, PointCount, Tolerance, TooFewKept}
use Rattle.points.specs.declared.Point2.{Point2}
use Rattle.curve2.specs.Section.{points_of, plain_dist, ends_meet}
use Rattle.curve2.specs.Entry.{tested, most_points, bad_count, bad_numbers, bad_tolerance, section_entry}
use Rattle.cleaning.specs.declared.Curve.{Curve}

-- ---- the curve of a list of points

-- "a point no farther than the tolerance from the last *kept* one is dropped"
unfoldable pub kept_after : Float → Point2 → List Point2 → List Point2
kept_after tol last [] = []
kept_after tol last (p ∷ ps) = cond (le (plain_dist p last) tol) (kept_after tol last ps) (p ∷ kept_after tol p ps)

unfoldable pub kept : Float → List Point2 → List Point2
unfolding kept_after
kept tol [] = []
kept tol (p ∷ ps) = p ∷ kept_after tol p ps

-- "forced closing adds the start if the ends are farther apart"
unfoldable pub forced_closed : Float → List Point2 → List Point2
unfolding ends_meet
forced_closed tol [] = []
forced_closed tol (p ∷ ps) = cond (ends_meet tol (p ∷ ps)) (p ∷ ps) ((p ∷ ps) ++ (p ∷ []))

abbrev pub closing : Float → Bool → List Point2 → List Point2
closing tol forced ps = cond forced (forced_closed tol ps) ps

-- 5: "cleaning leaves fewer than two points"
unfoldable pub curve_of : Float → Bool → List Point2 → Answer (List Point2)
curve_of tol forced ps = let k = kept tol ps in cond (ltb (length k) 2) (Err TooFewKept) (Ok (closing tol forced k))

-- ---- cleaning what is handed in

-- the 4,095 points that cleaning takes at most: forced closing may add one
abbrev pub most_cleaned : ℕ
most_cleaned = most_points - 1

-- 1 ("cleaning: over 4,095"), 2, 3, and 4: "cleaning's output shorter than its input plus two numbers"
abbrev pub cleaning_entry : List Float → Float → ℕ → Answer (Unit {0})
cleaning_entry ns tol room =
    tested
    ((PointCount, bad_count most_cleaned (length ns))
    ∷ (BadNumber, bad_numbers ns)
    ∷ (Tolerance, bad_tolerance tol)
    ∷ (NoRoom, ltb room (length ns + 2))
    ∷ [])

-- the curve's points, or a refusal; `room` is the length of the output
unfoldable pub cleaned : List Float → Float → Bool → ℕ → Answer (List Point2)
cleaned ns tol forced room = cleaning_entry ns tol room >>= λ passed. curve_of tol forced (points_of ns)

-- ---- `reversed` "gives the kept points backwards"

-- 1, 2, 3, 4 ("`reversed`'s than its input") and 6
unfoldable pub backwards : List Float → Float → ℕ → Answer (List Point2)
backwards ns tol room =
    section_entry ns tol (record { number = false; tolerance = false; finer = false; room = ltb room (length ns); state = false }) >>= λ passed.
    Ok (reverse (points_of ns))

-- ---- what is returned, and what the output holds then

unfoldable pub point_numbers : List Point2 → List Float
point_numbers [] = []
point_numbers (p ∷ ps) = p.x ∷ (p.y ∷ point_numbers ps)

-- the points from the output's start on, "and an output keeps what stands behind its result"
abbrev pub placed : List Point2 → List Float → List Float
placed ps old = point_numbers ps ++ drop (2 * length ps) old

-- "all refusals of cleaning .. change no memory"
unfoldable pub output_after : Answer (List Point2) → List Float → List Float
output_after (Ok ps) old = placed ps old
output_after (Err n) old = old

-- the count of points and whether the curve is closed
unfoldable pub curve_answer : Float → Answer (List Point2) → Answer Curve
curve_answer tol answer = answer >>= λ ps. Ok (record { count = length ps; is_closed = ends_meet tol ps })

-- Both together: the answer r of a call whose curve, or refusal, is `answer`, and its output before and after it.
pub record Made (answer : Answer (List Point2)) (tol : Float) (old new : List Float) (r : Answer Curve) : Type 0 where
  pub listed : r ≡ curve_answer tol answer
  pub output : new ≡ output_after answer old
