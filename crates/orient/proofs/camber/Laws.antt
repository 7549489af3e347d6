-- The camber curve in its array. Assumes nothing.
use mathlib.Core.Path.{◌≡◌, refl, ap}
use mathlib.Core.Bool.{Bool, true, false, cond}
use mathlib.Core.List.{List, [], ◌∷◌, map}
use Prim.Native.Nat.{ℕ, ◌*◌, ◌≤◌}
use native.Mathlib.Omega.{arith}
use borrow.Author.Tests.{ltb-false}
use lib.Dec.{ltb}
use lib.ListN.{length, take}
use lib.Ieee.{Float}
use Rattle.std.specs.Prelude.{Ok, Err}
use Rattle.errors.specs.Answer.{Answer, ◌>>=◌}
use Rattle.errors.specs.declared.Refusal.{Refusal}
use Rattle.points.specs.declared.Point2.{Point2}
use Rattle.curve2.specs.Entry.{HasPoints}
use Rattle.cleaning.specs.Cleaning.{kept, point_numbers, curve_of, curve_answer, output_after, Made}
use Rattle.cleaning.specs.declared.Curve.{Curve}
use Rattle.cleaning.proofs.Made.{kept-count, first_numbers, first_length}
use Rattle.inscribed.specs.Circles.{center}
use Rattle.inscribed.specs.declared.Inscribed.{Inscribed}
use Rattle.orient.specs.Camber.{Camber, camber, camber_with}
use Rattle.errors.specs.declared.Refusal.TheVariants.{TooFewKept}

-- the points of a curve that was made, and its numbers
pub record MadeCurve (tol : Float) (qs : List Point2) (new : List Float) (n : ℕ) : Type 0 where
  pub points : List Point2
  pub is : curve_of tol false qs ≡ Ok points
  pub numbers : take (2 * n) new ≡ point_numbers points
  pub long : length (take (2 * n) new) ≡ 2 * n
  pub least : 2 ≤ n
  pub most : n ≤ length qs

count_in : Answer Curve → ℕ
count_in (Ok c) = c.count
count_in (Err n) = 0

kept-most : (tol : Float) (qs : List Point2) → length (kept tol qs) ≤ length qs
unfolding kept
kept-most tol [] = omega arith
kept-most tol (q ∷ qs) = omega (arith, kept-count tol q qs)

pub made_curve : (tol : Float) (qs : List Point2) (old new : List Float) (c : Curve) → Made (curve_of tol false qs) tol old new (Ok c) → MadeCurve tol qs new c.count
unfolding curve_of curve_answer output_after count_in
made_curve tol qs old new c m = go (ltb (length (kept tol qs)) 2) refl m.listed m.output
  where
    go : (few : Bool) → ltb (length (kept tol qs)) 2 ≡ few → Ok c ≡ curve_answer tol (cond few (Err TooFewKept) (Ok (kept tol qs))) → new ≡ output_after (cond few (Err TooFewKept) (Ok (kept tol qs))) old
        → MadeCurve tol qs new c.count
    go true e l o = let z : ◌≡◌ {A = ℕ} 0 1 = cc in absurd (omega arith)
    go false e l o =
        let n : c.count ≡ length (kept tol qs) = ap count_in l in
        let twice : 2 * c.count ≡ 2 * length (kept tol qs) = ap (λ (k : ℕ). 2 * k) n in
        record {
          points = kept tol qs;
          is = rw e;
          numbers = first_numbers old (kept tol qs) (2 * c.count) new twice o;
          long = first_length old (kept tol qs) (2 * c.count) new twice o;
          least = omega (arith, n, ltb-false (length (kept tol qs)) 2 e);
          most = omega (arith, n, kept-most tol qs);
        }

pub curve_has_points : (tol : Float) (qs : List Point2) (new : List Float) (n : ℕ) → MadeCurve tol qs new n → length qs ≤ 1024 → HasPoints (take (2 * n) new)
curve_has_points tol qs new n m h = record { even = omega (arith, m.long); least = omega (arith, m.long, m.least); most = omega (arith, m.long, m.most) }

pub camber_refused : (cs : List Inscribed) (tol : Float) (old new : List Float) (x : Refusal) → Made (curve_of tol false (map center cs)) tol old new (Err x) → Err x ≡ camber_with cs tol
unfolding camber_with curve_answer
camber_refused cs tol old new x m = go (curve_of tol false (map center cs)) m
  where
    again : Answer Curve → Answer Camber
    again (Ok c) = Err TooFewKept
    again (Err k) = Err k

    go : (answer : Answer (List Point2)) → Made answer tol old new (Err x) → Err x ≡ (answer >>= λ curve. Ok (camber (point_numbers curve) tol))
    go (Ok ps) n = let e = n.listed in let z : ◌≡◌ {A = ℕ} 0 1 = cc in absurd (omega arith)
    go (Err k) n = ap again n.listed
