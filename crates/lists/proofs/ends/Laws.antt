-- The last two circles of a store, by their slots. Assumes nothing.
use mathlib.Core.Path.{◌≡◌, refl, ap, ◌∙◌}
use mathlib.Core.List.{List, [], ◌∷◌}
use Prim.Native.Nat.{ℕ, zero, suc, ◌+◌, ◌-◌, ◌≤◌, ◌<◌}
use native.Mathlib.Omega.{arith}
use lib.ListN.{length}
use lib.Ieee.{Float}
use Rattle.std.specs.Prelude.{Ok, Err}
use Rattle.inscribed.specs.Store.{circle_at, circles_from, circles_of}
use Rattle.inscribed.specs.declared.Inscribed.{Inscribed}
use Rattle.inscribed.proofs.StoreLaws.{length-circles}
use Rattle.lists.specs.Ends.{pair, last_pair}
use Rattle.errors.specs.declared.Refusal.TheVariants.{TooFewCircles}

pair_from : (ns : List Float) (k n : ℕ) → last_pair (circles_from ns k (suc (suc n))) ≡ Ok (pair (circle_at ns (k + n)) (circle_at ns (k + suc n)))
unfolding last_pair circles_from
pair_from ns k zero = let e : k + 0 ≡ k = omega arith in let f : k + 1 ≡ suc k = omega arith in rw (e, f)
pair_from ns k (suc n) =
    let e : suc k + n ≡ k + suc n = omega arith in
    let f : suc k + suc n ≡ k + suc (suc n) = omega arith in
    pair_from ns (suc k) n ∙ rw (e, f)

pub last_pair_lem : (ns : List Float) (n : ℕ) → 2 ≤ n → last_pair (circles_of ns n) ≡ Ok (pair (circle_at ns (n - 2)) (circle_at ns (n - 1)))
last_pair_lem ns n h =
    let e : n ≡ suc (suc (n - 2)) = omega arith in
    let f : 0 + (n - 2) ≡ n - 2 = omega arith in
    let g : 0 + suc (n - 2) ≡ n - 1 = omega arith in
    ap (λ (m : ℕ). last_pair (circles_of ns m)) e ∙ pair_from ns 0 (n - 2) ∙ rw (f, g)

pub few_circles : (cs : List Inscribed) → length cs < 2 → last_pair cs ≡ Err TooFewCircles
unfolding last_pair
few_circles [] h = refl
few_circles (a ∷ []) h = refl
few_circles (a ∷ (b ∷ cs)) h = absurd (omega arith)

pub too_few : (ns : List Float) (n : ℕ) → n < 2 → last_pair (circles_of ns n) ≡ Err TooFewCircles
too_few ns n h = few_circles (circles_of ns n) (omega (arith, length-circles ns 0 n))
