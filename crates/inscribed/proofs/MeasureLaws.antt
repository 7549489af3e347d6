-- The first and last, the thickest and the spacing of the circles in a store. Assumes nothing.
use mathlib.Core.Path.{◌≡◌, refl}
use mathlib.Core.Bool.{Bool, true, false}
use mathlib.Core.List.{List, [], ◌∷◌}
use Prim.Native.Nat.{ℕ, zero, suc, ◌+◌, ◌-◌, ◌≤◌, ◌<◌}
use native.Mathlib.Numerals.{add-one}
use native.Mathlib.Nat.{add-zero}
use native.Mathlib.Omega.{arith}
use lib.ListN.{length, get_or, drop, drop_of_length-le}
use lib.Seq.{drop-cons}
use lib.IntN.{pos}
use lib.Ieee.{Float, nan, inf, fin, lt, of_int, binary64}
use Rattle.std.specs.Prelude.{Ok, Err}
use Rattle.errors.specs.Answer.{Answer, ◌>>=◌}
use Rattle.errors.specs.declared.Refusal.{Refusal}
use Rattle.errors.specs.Lists.{last_of}
use Rattle.points.specs.Numbers.{◌/f◌, f0}
use Rattle.inscribed.specs.Store.{circle_at, circles_from, circles_of}
use Rattle.inscribed.specs.declared.Inscribed.{Inscribed}
use Rattle.inscribed.proofs.StoreLaws.{length-circles}
use Rattle.inscribed.specs.Lists.{front_and_back, tmax_from, tmax, spacing_after, spacing_sum, average_spacing}
use Rattle.errors.specs.declared.Refusal.TheVariants.{TooFewCircles}

-- ---- the circle at a place

pub circle_of_list : (ns : List Float) (k n i : ℕ) (d : Inscribed) → i < n → get_or (circles_from ns k n) i d ≡ circle_at ns (k + i)
unfolding circles_from
circle_of_list ns k zero i d h = absurd (omega arith)
circle_of_list ns k (suc n) zero d h = rw (add-zero k)
circle_of_list ns k (suc n) (suc i) d h = let z : k + suc i ≡ suc k + i = omega arith in rw z (circle_of_list ns (suc k) n i d (omega arith))

-- ---- both ends

last_at : (ns : List Float) (k n : ℕ) → last_of (circle_at ns k) (circles_from ns (suc k) n) ≡ circle_at ns (k + n)
unfolding last_of circles_from
last_at ns k zero = rw (add-zero k)
last_at ns k (suc n) = let z : k + suc n ≡ suc k + n = omega arith in rw z (last_at ns (suc k) n)

pub ends_are : (ns : List Float) (count : ℕ) → 0 < count → Ok (record { front = circle_at ns 0; back = circle_at ns (count - 1) }) ≡ front_and_back (circles_of ns count)
unfolding front_and_back circles_from
ends_are ns zero h = absurd (omega arith)
ends_are ns (suc n) h = let z : suc n - 1 ≡ n = omega arith in let zero-add : 0 + n ≡ n = omega arith in rw (z, last_at ns 0 n, zero-add)

-- ---- the thickest

-- no number is less than a NaN
never_less : (x : Float) → lt x nan ≡ false
unfolding lt
never_less nan = refl
never_less (inf s) = refl
never_less (fin s m e) = refl

-- so the first circle wins
pub tmax_from_first : (cs : List Inscribed) → tmax_from 0 nan 0 cs ≡ tmax cs
unfolding tmax_from tmax
tmax_from_first [] = refl
tmax_from_first (c ∷ cs) = rw (never_less c.r)

-- the greatest so far, and the circles left
module _ (cs : List Inscribed) (best : ℕ) (most : Float) (k : ℕ) (inv : tmax_from best most k (drop k cs) ≡ tmax cs) where
  module _ (d : Inscribed) (h : k < length cs) where
    pub tmax_kept : lt (get_or cs k d).r most ≡ true → tmax_from best most (k + 1) (drop (k + 1) cs) ≡ tmax cs
    unfolding tmax_from
    tmax_kept p = rw (add-one k) (rw (drop-cons cs k d h, p) at inv)

    pub tmax_won : lt (get_or cs k d).r most ≡ false → tmax_from k (get_or cs k d).r (k + 1) (drop (k + 1) cs) ≡ tmax cs
    unfolding tmax_from
    tmax_won p = rw (add-one k) (rw (drop-cons cs k d h, p) at inv)

  pub tmax_over : length cs ≤ k → best ≡ tmax cs
  unfolding tmax_from
  tmax_over h = rw (drop_of_length-le cs h) at inv

tmax_from_lem : (best : ℕ) (most : Float) (k : ℕ) (cs : List Inscribed) → best < k → tmax_from best most k cs < k + length cs
unfolding tmax_from
tmax_from_lem best most k [] h = omega arith
tmax_from_lem best most k (c ∷ cs) h = go (lt c.r most) refl (tmax_from_lem best most (suc k) cs (omega arith)) (tmax_from_lem k c.r (suc k) cs (omega arith))
  where
    go : (b : Bool) → lt c.r most ≡ b → tmax_from best most (suc k) cs < suc k + length cs → tmax_from k c.r (suc k) cs < suc k + length cs → tmax_from best most k (c ∷ cs) < k + length (c ∷ cs)
    go true e p q = rw e (omega (arith, p))
    go false e p q = rw e (omega (arith, q))

-- it is a place of the list
pub tmax-place : (cs : List Inscribed) → 0 < length cs → tmax cs < length cs
unfolding tmax
tmax-place [] h = absurd (omega arith)
tmax-place (c ∷ cs) h = omega (arith, tmax_from_lem 0 c.r 1 cs (omega arith))

-- ---- the spacing

pub too_few : (ns : List Float) (count : ℕ) → count < 2 → Err TooFewCircles ≡ average_spacing (circles_of ns count)
unfolding average_spacing circles_from
too_few ns zero h = refl
too_few ns (suc zero) h = refl
too_few ns (suc (suc n)) h = absurd (omega arith)

-- the sum over all, and divided
abbrev pub whole_sum : List Float → ℕ → Answer Float
whole_sum ns last = spacing_sum f0 (circle_at ns 0) (circles_from ns 1 last)

pub average_is : (ns : List Float) (count : ℕ) → 2 ≤ count → average_spacing (circles_of ns count) ≡ (whole_sum ns (count - 1) >>= λ sum. Ok (sum /f of_int binary64 (pos (count - 1))))
unfolding average_spacing circles_from
average_is ns zero h = absurd (omega arith)
average_is ns (suc zero) h = absurd (omega arith)
average_is ns (suc (suc n)) h = let z : suc (suc n) - 1 ≡ suc n = omega arith in rw (z, length-circles ns 2 n)

module _ (ns : List Float) (last : ℕ) (sum : Float) (k : ℕ) (whole : Answer Float) (inv : spacing_sum sum (circle_at ns k) (circles_from ns (k + 1) (last - k)) ≡ whole) where
  module _ (h : k < last) where
    further : last - k ≡ suc (last - (k + 1))
    further = omega arith

    pub sum_refused : (n : Refusal) → Err n ≡ spacing_after sum (circle_at ns k) (circle_at ns (k + 1)) → Err n ≡ whole
    unfolding spacing_sum circles_from
    sum_refused n e = rw (further, ← e) at inv

    pub sum_goes : (s : Float) → Ok s ≡ spacing_after sum (circle_at ns k) (circle_at ns (k + 1)) → spacing_sum s (circle_at ns (k + 1)) (circles_from ns (k + 1 + 1) (last - (k + 1))) ≡ whole
    unfolding spacing_sum circles_from
    sum_goes s e = rw (add-one (k + 1)) (rw (further, ← e) at inv)

  pub sum_over : last ≤ k → Ok sum ≡ whole
  unfolding spacing_sum circles_from
  sum_over h = let z : last - k ≡ 0 = omega arith in rw z at inv
