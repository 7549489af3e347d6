-- `camber_curve` and `make_camber_curve`: "an unforced cleaning of its points, output rule and refusals too, but too few centres is 5". Assumes nothing.
use Rattle.std.specs.Prelude.{Bool, false, not, ◌&&◌, ◌||◌, List, [], ◌∷◌, ◌++◌, map, ℕ, ◌+◌, ◌*◌, min, ltb, Float}
use Rattle.errors.specs.Answer.{Answer, ◌>>=◌}
use Rattle.points.specs.declared.Point2.{Point2}
use Rattle.curve2.specs.Entry.{tested, in_range, bad_tolerance}
use Rattle.inscribed.specs.Circles.{center}
use Rattle.inscribed.specs.Store.{circles_of, slots, bad_store, bad_store_count}
use Rattle.inscribed.specs.declared.Inscribed.{Inscribed}
use Rattle.errors.specs.declared.Refusal.TheVariants.{BadNumber, NoRoom, Tolerance, TooFewKept}
use Rattle.cleaning.specs.Cleaning.{curve_of}

-- 2: "a centre or end point under a camber curve, has a coordinate beyond 1,000,000 in size"
abbrev pub bad_point : Point2 → Bool
bad_point p = not (in_range p.x && in_range p.y)

unfoldable pub any_bad_center : List Inscribed → Bool
any_bad_center [] = false
any_bad_center (c ∷ cs) = bad_point (center c) || any_bad_center cs

-- "of a store only the circles in use, as far as it holds them, are tested"
abbrev pub bad_centers : List Float → ℕ → Bool
bad_centers ns count = any_bad_center (circles_of ns (min count (slots ns)))

-- With `ends` end points beside the centres, of which one may be bad, and an output of `room` numbers. "Its tolerance is tested as a section's", the output is
-- "shorter than its input plus two numbers" (4), and too few centres is 5.
unfoldable pub camber_entry : List Float → ℕ → Float → Bool → ℕ → ℕ → Answer (Unit {0})
camber_entry ns count tol badEnd ends room =
    tested
    ((BadNumber, bad_store ns count || (bad_centers ns count || badEnd))
    ∷ (Tolerance, bad_tolerance tol)
    ∷ (NoRoom, bad_store_count ns count || ltb room (2 * (count + ends) + 2))
    ∷ (TooFewKept, ltb (count + ends) 2)
    ∷ [])

-- the centres of the circles in use
abbrev pub centers : List Float → ℕ → List Point2
centers ns count = map center (circles_of ns count)

-- ---- the curves

-- `camber_curve`: through the centres
unfoldable pub camber_curve : List Float → ℕ → Float → ℕ → Answer (List Point2)
camber_curve ns count tol room = camber_entry ns count tol false 0 room >>= λ passed. curve_of tol false (centers ns count)

-- `make_camber_curve`: from the leading edge point through the centres to the trailing edge point
unfoldable pub camber_curve_between : Point2 → Point2 → List Float → ℕ → Float → ℕ → Answer (List Point2)
camber_curve_between le te ns count tol room =
    camber_entry ns count tol (bad_point le || bad_point te) 2 room >>= λ passed.
    curve_of tol false (le ∷ (centers ns count ++ (te ∷ [])))
