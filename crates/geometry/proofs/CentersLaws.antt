-- The centres of a store one after the other: whether one is bad; and what a store that passed has. Assumes nothing.
use Rattle.std.proofs.Common.{◌≡◌, refl, sym, Bool, ◌||◌, List, [], ◌∷◌, ℕ, ◌+◌, ◌*◌, ◌≤◌, length, ltb}
use Rattle.std.specs.List.{list_any}
use Rattle.std.specs.Prelude.{Float, Ok}
use borrow.Author.Tests.{ltb-false}
use Rattle.std.proofs.Math.Bool.{or-false}
use Rattle.errors.specs.declared.Refusal.TheVariants.{BadNumber, NoRoom, Tolerance, TooFewKept}
use Rattle.points.specs.declared.Point2.{Point2}
use Rattle.curve2.specs.Entry.{bad_tolerance}
use Rattle.curve2.proofs.Laws.{none_bad, or_left, or_right}
use Rattle.inscribed.specs.Circles.{center}
use Rattle.inscribed.specs.Store.{width, most_slots, bad_store, bad_store_count}
use Rattle.inscribed.specs.declared.Inscribed.{Inscribed}
use Rattle.inscribed.proofs.StoreLaws.{count_fits}
use Rattle.geometry.specs.Camber.{bad_point, any_bad_center, bad_centers, camber_entry}

pub any_bad_center_is : (cs : List Inscribed) → list_any (λ c. bad_point (center c)) cs ≡ any_bad_center cs
unfolding any_bad_center
any_bad_center_is [] = refl
any_bad_center_is (c ∷ cs) = rw (any_bad_center_is cs)

-- one of two end points
pub bad_ends : (p q : Point2) → list_any bad_point (p ∷ (q ∷ [])) ≡ (bad_point p || bad_point q)
bad_ends p q = rw (or-false (bad_point q))

-- ---- a store that passed

pub camber_passed : (ns : List Float) (count : ℕ) (tol : Float) (badEnd : Bool) (ends room : ℕ) → Ok tt ≡ camber_entry ns count tol badEnd ends room
    → (count * width ≤ length ns) × (count ≤ most_slots) × (2 * (count + ends) + 2 ≤ room) × (2 ≤ count + ends)
unfolding camber_entry
camber_passed ns count tol badEnd ends room e =
    let none = none_bad ((BadNumber, bad_store ns count || (bad_centers ns count || badEnd)) ∷ (Tolerance, bad_tolerance tol) ∷ (NoRoom, bad_store_count ns count || ltb room (2 * (count + ends) + 2)) ∷ (TooFewKept, ltb (count + ends) 2) ∷ []) (sym e) in
    let fits = count_fits ns count (or_left _ _ none.1.1.0) in
    (fits.0, fits.1, ltb-false room (2 * (count + ends) + 2) (or_right (bad_store_count ns count) _ none.1.1.0), ltb-false (count + ends) 2 none.1.1.1.0)
