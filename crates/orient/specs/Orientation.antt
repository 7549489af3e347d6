-- "`OrientFwdAft` is by greatest radius, by an airflow vector or by a forward vector; `OrientUpperLower` by an upper or a lower vector", or by curvature. Assumes nothing.
use Rattle.std.specs.Prelude.{Bool, not, false, true, ◌||◌, List, [], ◌∷◌, map, reverse, ◌≡◌, ℕ, ltb, get_or, Float, Ok, Err}
use Rattle.std.specs.Float.Ieee.{lt}
use Rattle.errors.specs.Answer.{Answer, ◌>>=◌, watched}
use Rattle.errors.specs.Numbers.{is_plus}
use Rattle.points.specs.Points.{finite_vector, dot_of, negated}
use Rattle.points.specs.declared.Vector2.{Vector2}
use Rattle.inscribed.specs.Circles.{contact_dir, center, reversed_points}
use Rattle.inscribed.specs.declared.Inscribed.{Inscribed}
use Rattle.inscribed.specs.Lists.{front_and_back, tmax}
use Rattle.points.specs.Numbers.{◌*f◌, f½}
use Rattle.curve2.specs.Section.{whole_length}
use Rattle.sections.specs.Places.{at_closest, length_along}
use Rattle.inscribed.specs.Store.{circle_from, circles_of, stored, bad_store, bad_store_count}
use Rattle.curve2.specs.Entry.{tested}
use Rattle.geometry.specs.Camber.{bad_centers}
use Rattle.orient.specs.Votes.{majority}
use Rattle.orient.specs.Camber.{Camber, camber_of}
use Rattle.orient.specs.Curvature.{curvature_on}
use Rattle.orient.specs.declared.OrientFwdAft.{OrientFwdAft}
use Rattle.orient.specs.declared.OrientFwdAft.TheVariants.{TmaxFwd, Airflow, Fwd}
use Rattle.orient.specs.declared.OrientUpperLower.{OrientUpperLower}
use Rattle.orient.specs.declared.OrientUpperLower.TheVariants.{Curvature, Upper, Lower}
use Rattle.errors.specs.declared.Refusal.TheVariants.{BadNumber, NoRoom, TooFewCircles}

-- ---- `check_dir_fwd`: by a vector that points forward

-- a centre's coordinates against a direction
unfoldable pub center_dot : Vector2 → Inscribed → Answer Float
center_dot dir c = dot_of dir (record { x = c.cx; y = c.cy })

unfoldable pub less_forward : Vector2 → Inscribed → Inscribed → Answer Bool
less_forward dir front back = center_dot dir front >>= λ a. center_dot dir back >>= λ b. Ok (lt a b)

-- turned if the front lies less far forward than the back
unfoldable pub dir_fwd : Vector2 → List Inscribed → Answer Bool
dir_fwd dir cs = front_and_back cs >>= λ ends. less_forward dir ends.front ends.back

-- ---- `check_dir_upper`: by a vector that points to the upper side

-- a circle votes for swapping where the product's sign bit is set
unfoldable pub vote_of : Vector2 → Inscribed → Answer Bool
vote_of dir c = dot_of dir (contact_dir c) >>= λ d. Ok (not (is_plus d))

-- swapped if more circles vote for it than don't
unfoldable pub dir_upper : Vector2 → List Inscribed → Answer Bool
unfolding vote_of
dir_upper dir cs = majority (vote_of dir) cs

-- ---- `check_tmax_fwd`: by the greatest radius

-- the thickest circle
unfoldable pub thickest : List Inscribed → Inscribed
thickest cs = get_or cs (tmax cs) (circle_from [] 0)

-- a length along a curve that isn't less than half of the whole; `ns` are the curve's numbers
unfoldable pub behind_half : List Float → Float → Answer Bool
behind_half ns along = watched (whole_length ns) >>= λ whole. Ok (not (lt along (whole *f f½)))

-- the place of c on the curve is that of the nearest station to its centre
unfoldable pub in_back_half : List Float → Inscribed → Answer Bool
in_back_half ns c =
    at_closest ns (center c) >>= λ station.
    length_along ns station.index station.fraction >>= λ along.
    behind_half ns along

-- turned if the thickest circle isn't in the front half of the camber curve
unfoldable pub tmax_on : List Inscribed → Camber → Answer Bool
tmax_on cs camber = in_back_half camber.numbers (thickest cs)

unfoldable pub tmax_fwd : List Inscribed → Answer Bool
tmax_fwd cs = camber_of cs >>= λ camber. tmax_on cs camber

-- ---- `check_curvature_upper`: by the side to which the camber bends

unfoldable pub curvature_upper : List Inscribed → Answer Bool
curvature_upper cs = camber_of cs >>= λ camber. curvature_on cs camber

-- ---- the entry tests

-- 2, 4, then 7; `bad` is what fails by 2 beside the store
unfoldable pub orient_entry : List Float → ℕ → Bool → Answer (Unit {0})
orient_entry ns count bad = tested ((BadNumber, bad_store ns count || bad) ∷ (NoRoom, bad_store_count ns count) ∷ (TooFewCircles, ltb count 2) ∷ [])

-- ---- forward and aft

-- By greatest radius a camber curve is built, so that a centre out of its range is bad; a case with a vector has that to test.
abbrev pub bad_fwd : OrientFwdAft → List Float → ℕ → Bool
bad_fwd TmaxFwd ns count = bad_centers ns count
bad_fwd (Airflow v) ns count = not (finite_vector v)
bad_fwd (Fwd v) ns count = not (finite_vector v)

-- an airflow vector points aft
abbrev pub turn_of : OrientFwdAft → List Inscribed → Answer Bool
turn_of TmaxFwd cs = tmax_fwd cs
turn_of (Airflow v) cs = dir_fwd (negated v) cs
turn_of (Fwd v) cs = dir_fwd v cs

-- whether the order has to be turned
unfoldable pub fwd_asked : OrientFwdAft → List Float → ℕ → Answer Bool
fwd_asked how ns count = orient_entry ns count (bad_fwd how ns count) >>= λ passed. turn_of how (circles_of ns count)

-- ---- upper and lower

-- by curvature a camber curve is built too
abbrev pub bad_upper : OrientUpperLower → List Float → ℕ → Bool
bad_upper Curvature ns count = bad_centers ns count
bad_upper (Upper v) ns count = not (finite_vector v)
bad_upper (Lower v) ns count = not (finite_vector v)

abbrev pub swap_of : OrientUpperLower → List Inscribed → Answer Bool
swap_of Curvature cs = curvature_upper cs
swap_of (Upper v) cs = dir_upper v cs
swap_of (Lower v) cs = dir_upper (negated v) cs

-- whether the contacts have to be swapped
unfoldable pub upper_asked : OrientUpperLower → List Float → ℕ → Answer Bool
upper_asked how ns count = orient_entry ns count (bad_upper how ns count) >>= λ passed. swap_of how (circles_of ns count)

-- ---- the store afterwards

-- f of the circles in use where the answer is yes; "all refusals of .. orientation, change no memory"
abbrev pub changed_if : (List Inscribed → List Inscribed) → Answer Bool → List Float → ℕ → List Float
changed_if f (Ok true) ns count = stored (f (circles_of ns count)) ns
changed_if f (Ok false) ns count = ns
changed_if f (Err r) ns count = ns

-- forward and aft the order is turned, upper and lower the contacts are swapped
abbrev pub fwd_store : OrientFwdAft → List Float → ℕ → List Float
fwd_store how ns count = changed_if reverse (fwd_asked how ns count) ns count

abbrev pub upper_store : OrientUpperLower → List Float → ℕ → List Float
upper_store how ns count = changed_if (map reversed_points) (upper_asked how ns count) ns count

-- Both together: the answer r of a call, and the store before and after it.
pub record Oriented (f : List Inscribed → List Inscribed) (answer : Answer Bool) (old : List Float) (count : ℕ) (new : List Float) (r : Answer Bool) : Type 0 where
  pub listed : r ≡ answer
  pub output : new ≡ changed_if f answer old count
