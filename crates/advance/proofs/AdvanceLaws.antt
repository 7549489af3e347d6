-- Laws of one advance: the loop over the fractions. Assumes nothing.
use mathlib.Core.Path.{◌≡◌, refl}
use mathlib.Core.Bool.{true, false}
use mathlib.Core.List.{List}
use Prim.Native.Nat.{ℕ, suc, ◌+◌, ◌-◌, ◌≤◌, ◌<◌}
use native.Mathlib.Numerals.{add-one}
use native.Mathlib.Omega.{arith}
use borrow.Author.Tests.{le-leb, lt-leb}
use lib.Ieee.{Float, lt}
use Rattle.std.specs.Prelude.{Option, Some, None, Ok, Err}
use Rattle.errors.specs.Answer.{Answer}
use Rattle.errors.specs.declared.Refusal.{Refusal}
use Rattle.line2.specs.declared.surface2.SurfacePoint2.{SurfacePoint2}
use Rattle.queries.specs.declared.Crossing.{Crossing}
use Rattle.runs.specs.Run.{under_limit}
use Rattle.inscribed.specs.declared.Inscribed.{Inscribed}
use Rattle.halving.specs.Halving.{from_crossing}
use Rattle.refine.specs.Machine.{finished}
use Rattle.advance.specs.Advance.{step_of, tried_line}
use Rattle.advance.specs.Code.{Outcome, ending, out_of_units, circle_outcome, tries_from, outcome_units}
use Rattle.errors.specs.declared.Refusal.TheVariants.{NoAdvance}

-- ---- the loop over the fractions
module _ (ns : List Float) (tol : Float) (c : Inscribed) (ray : SurfacePoint2) (limit k u : ℕ) (whole : Outcome) (inv : tries_from ns tol c ray (under_limit limit) (4 - k) k u ≡ whole) where
  module _ (few : k < 4) where
    one_more : 4 - k ≡ suc (4 - (k + 1))
    one_more = omega arith

    pub tries-short : lt (step_of c k) tol ≡ true → ending finished u ≡ whole
    unfolding tries_from
    tries-short p = rw (one_more, p) at inv

    module _ (long : lt (step_of c k) tol ≡ false) where
      pub tries-spent : limit ≤ u → out_of_units k u ≡ whole
      unfolding tries_from
      tries-spent h = rw (one_more, long, le-leb limit u h) at inv

      module _ (free : u < limit) (r : Answer (Option Crossing)) (is : r ≡ tried_line ns c ray k) where
        pub tries-refused : (x : Refusal) → r ≡ Err x → ending (Err x) (u + 1) ≡ whole
        unfolding tries_from
        tries-refused x e = rw (add-one u) (rw (one_more, long, lt-leb limit u free, ← (rw e at is)) at inv)

        pub tries-found : (x : Crossing) → r ≡ Ok (Some x) → circle_outcome (u + 1) (from_crossing ns tol x) ≡ whole
        unfolding tries_from
        tries-found x e = rw (add-one u) (rw (one_more, long, lt-leb limit u free, ← (rw e at is)) at inv)

        pub tries_missed : r ≡ (Ok None) → tries_from ns tol c ray (under_limit limit) (4 - (k + 1)) (k + 1) (u + 1) ≡ whole
        unfolding tries_from
        tries_missed e = rw (add-one u, add-one k) (rw (one_more, long, lt-leb limit u free, ← (rw e at is), add-one k) at inv)

  pub tries-over : 4 ≤ k → ending (Err NoAdvance) u ≡ whole
  unfolding tries_from
  tries-over h = let None : 4 - k ≡ 0 = omega arith in rw None at inv

-- a circle's units are those handed on
pub circle-units : (u : ℕ) (a : Answer Inscribed) → outcome_units (circle_outcome u a) ≡ u
unfolding circle_outcome
circle-units u (Ok d) = refl
circle-units u (Err n) = refl
