-- The circle that a trial adds passes the test of 2 for a circle handed in. Assumes nothing.
use mathlib.Core.Path.{◌≡◌, refl, ◌∙◌}
use mathlib.Core.Bool.{Bool, true, false, ◌||◌, cond}
use mathlib.Core.List.{List}
use Prim.Native.Nat.{ℕ}
use native.Mathlib.Omega.{arith}
use lib.Ieee.{Float, lt}
use Rattle.std.specs.Prelude.{Option, Some, None, Ok}
use Rattle.errors.specs.Answer.{Answer, watched}
use Rattle.errors.proofs.Laws.{given}
use Rattle.points.specs.Numbers.{◌-f◌}
use Rattle.points.specs.Points.{dist_of}
use Rattle.points.specs.declared.AngleDir.TheVariants.{Ccw}
use Rattle.line2.specs.Rays.{halfway_ray, rotated_ray, ray_line}
use Rattle.line2.specs.declared.surface2.SurfacePoint2.{SurfacePoint2}
use Rattle.line2.specs.declared.Line2.{Line2}
use Rattle.curve2.specs.Entry.{IsSection}
use Rattle.queries.specs.Crossing.{crossing_of}
use Rattle.queries.specs.declared.Crossing.{Crossing}
use Rattle.inscribed.specs.Circles.{center, camber_point}
use Rattle.inscribed.specs.Store.{bad_circle}
use Rattle.inscribed.specs.declared.Inscribed.{Inscribed}
use Rattle.halving.specs.Halving.{from_crossing, circle_on, try_inscribed}
use Rattle.halving.proofs.MadeLaws.{made_passes}
use Rattle.circles.specs.Trial.{size_of, greater, middle_radius, judged, tried_on, trial}

some_is : {A : Type 0} (a b : A) → ◌≡◌ {A = Answer (Option A)} (Ok (Some a)) (Ok (Some b)) → a ≡ b
some_is a b e = cc

none_is : {A B : Type 0} (b : A) → ◌≡◌ {A = Answer (Option A)} (Ok None) (Ok (Some b)) → B
none_is b e = let z : ◌≡◌ {A = ℕ} 0 1 = cc in absurd (omega arith)

module _ (ns : List Float) (section_tol : Float) (sec : IsSection ns section_tol) (tol : Float) where
  -- of a crossing
  pub crossing_passes : (x : Crossing) (c : Inscribed) → from_crossing ns tol x ≡ Ok c → bad_circle c ≡ false
  crossing_passes x c e = made_passes ns section_tol sec tol x.line c e

  pub on_line_passes : (l : Line2) (c : Inscribed) → try_inscribed ns tol l ≡ Ok (Some c) → bad_circle c ≡ false
  unfolding try_inscribed circle_on
  on_line_passes l c e = let one = given (crossing_of ns l) _ (Some c) e in go one.value one.gives
    where
      go : (o : Option Crossing) → circle_on ns tol o ≡ Ok (Some c) → bad_circle c ≡ false
      go None p = none_is c p
      go (Some x) p =
          let two = given (from_crossing ns tol x) _ (Some c) p in
          let is : two.value ≡ c = some_is two.value c two.gives in
          crossing_passes x c (two.is ∙ rw is refl)

  judged_is : (a b : Inscribed) (ray : SurfacePoint2) (o : Option Inscribed) (d : Inscribed) → judged tol a b ray o ≡ Ok (Some d) → o ≡ Some d
  unfolding judged
  judged_is a b ray None d e = none_is d e
  judged_is a b ray (Some c) d e =
      let one = given (watched (size_of (c.r -f middle_radius a b))) _ (Some d) e in
      let two = given (dist_of ray.point (center c)) _ (Some d) one.gives in
      go (lt (greater a.r b.r) c.r || (lt tol one.value || lt tol two.value)) two.gives
    where
      go : (x : Bool) → ◌≡◌ {A = Answer (Option Inscribed)} (Ok (cond x (Some c) None)) (Ok (Some d)) → Some c ≡ Some d
      go true p = rw (some_is c d p) refl
      go false p = none_is d p

  pub trial_passes : (a b d : Inscribed) → trial ns tol a b ≡ Ok (Some d) → bad_circle d ≡ false
  unfolding trial tried_on
  trial_passes a b d e =
      let one = given (camber_point a) _ (Some d) e in
      let two = given (camber_point b) _ (Some d) one.gives in
      let three = given (halfway_ray one.value two.value) _ (Some d) two.gives in
      let four = given (try_inscribed ns tol (ray_line (rotated_ray Ccw three.value))) _ (Some d) three.gives in
      on_line_passes (ray_line (rotated_ray Ccw three.value)) d (four.is ∙ rw (judged_is a b three.value four.value d four.gives) refl)
