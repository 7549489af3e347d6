-- What is told of a list of circles, and "turn order and contacts". Assumes nothing.
use Rattle.std.specs.Prelude.{List, map, reverse, [], ◌∷◌, cond, ℕ, suc, pos, length, Float, Ok, Err}
use Rattle.std.specs.Float.Ieee.{lt, of_int}
use Rattle.std.specs.Float.{binary64}
use Rattle.inscribed.specs.Circles.{reversed_points, center}
use Rattle.inscribed.specs.declared.Inscribed.{Inscribed}
use Rattle.errors.specs.Answer.{Answer, watched, ◌>>=◌}
use Rattle.errors.specs.Lists.{last_of}
use Rattle.points.specs.Numbers.{◌+f◌, ◌/f◌, f0}
use Rattle.points.specs.Points.{dist_of}
use Rattle.inscribed.specs.declared.FrontAndBack.{FrontAndBack}
use Rattle.errors.specs.declared.Refusal.TheVariants.{TooFewCircles}

unfoldable pub turned : List Inscribed → List Inscribed
turned cs = reverse (map reversed_points cs)

-- ---- `front_and_back`

-- "the first and last inscribed circles, or an error if the collection is empty": 7; one circle is both
unfoldable pub front_and_back : List Inscribed → Answer FrontAndBack
unfolding last_of
front_and_back [] = Err TooFewCircles
front_and_back (c ∷ cs) = Ok (record { front = c; back = last_of c cs })

-- ---- `index_of_tmax`

-- The circle at `best` has the radius `most`; the next stands at place k. A later circle wins unless its radius is less.
unfoldable pub tmax_from : ℕ → Float → ℕ → List Inscribed → ℕ
tmax_from best most k [] = best
tmax_from best most k (c ∷ cs) =
    let kept = tmax_from best most (suc k) cs in
    let won = tmax_from k c.r (suc k) cs in
    cond (lt c.r most) kept won

-- the place of the thickest circle; place 0 of no circle
unfoldable pub tmax : List Inscribed → ℕ
unfolding tmax_from
tmax [] = 0
tmax (c ∷ cs) = tmax_from 0 c.r 1 cs

-- ---- `average_spacing`

-- the sum after the distance from a to b, its follower: `dist(items[i], items[i - 1])`
unfoldable pub spacing_after : Float → Inscribed → Inscribed → Answer Float
spacing_after sum a b = dist_of (center b) (center a) >>= λ d. watched (sum +f d)

unfoldable pub spacing_sum : Float → Inscribed → List Inscribed → Answer Float
unfolding spacing_after
spacing_sum sum a [] = Ok sum
spacing_sum sum a (b ∷ cs) = spacing_after sum a b >>= λ next. spacing_sum next b cs

-- "an average sums in order and divides once"; 7 for fewer than two circles
unfoldable pub average_spacing : List Inscribed → Answer Float
unfolding spacing_sum
average_spacing [] = Err TooFewCircles
average_spacing (a ∷ []) = Err TooFewCircles
average_spacing (a ∷ (b ∷ cs)) = spacing_sum f0 a (b ∷ cs) >>= λ sum. Ok (sum /f of_int binary64 (pos (length (b ∷ cs))))
