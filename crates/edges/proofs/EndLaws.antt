-- The last two circles, and the end that is meant. Assumes nothing.
use mathlib.Core.Path.{◌≡◌, refl, ap, ◌∙◌}
use mathlib.Core.Bool.{Bool, true, false}
use mathlib.Core.List.{List, [], ◌∷◌, ◌++◌, reverse, reverse-cons, append_assoc}
use Prim.Native.Nat.{ℕ, suc, ◌-◌, ◌≤◌, ◌<◌}
use native.Mathlib.Omega.{arith}
use lib.ListN.{length, length-reverse}
use lib.Ieee.{Float}
use Rattle.std.specs.Prelude.{Ok, Err}
use Rattle.inscribed.specs.Store.{circle_at, circles_from, circles_of}
use Rattle.inscribed.proofs.StoreLaws.{length-circles}
use Rattle.inscribed.specs.declared.Inscribed.{Inscribed}
use Rattle.lists.specs.Ends.{pair, last_pair}
use Rattle.lists.proofs.ends.Laws.{few_circles}
use Rattle.edges.specs.Edges.{end_last}
use Rattle.errors.specs.declared.Refusal.TheVariants.{TooFewCircles}

-- ---- the last two circles

pair-behind : (cs : List Inscribed) (b a : Inscribed) → last_pair (cs ++ (b ∷ (a ∷ []))) ≡ Ok (pair b a)
unfolding last_pair
pair-behind [] b a = refl
pair-behind (x ∷ []) b a = refl
pair-behind (x ∷ (y ∷ [])) b a = refl
pair-behind (x ∷ (y ∷ (z ∷ cs))) b a = pair-behind (y ∷ (z ∷ cs)) b a

two_first : (ns : List Float) (m : ℕ) → circles_of ns (suc (suc m)) ≡ circle_at ns 0 ∷ (circle_at ns 1 ∷ circles_from ns 2 m)
unfolding circles_from
two_first ns m = refl

pub front-pair : (ns : List Float) (n : ℕ) → 2 ≤ n → last_pair (reverse (circles_of ns n)) ≡ Ok (pair (circle_at ns 1) (circle_at ns 0))
front-pair ns n h = go (n - 2) (omega arith)
  where
    go : (m : ℕ) → n ≡ suc (suc m) → last_pair (reverse (circles_of ns n)) ≡ Ok (pair (circle_at ns 1) (circle_at ns 0))
    go m e =
        let rest : List Inscribed = circles_from ns 2 m in
        let a : Inscribed = circle_at ns 0 in
        let b : Inscribed = circle_at ns 1 in
        ap (λ (k : ℕ). last_pair (reverse (circles_of ns k))) e
        ∙ ap (λ (x : List Inscribed). last_pair (reverse x)) (two_first ns m)
        ∙ ap last_pair (reverse-cons a (b ∷ rest) ∙ ap (λ (x : List Inscribed). x ++ (a ∷ [])) (reverse-cons b rest) ∙ append_assoc (reverse rest) (b ∷ []) (a ∷ []))
        ∙ pair-behind (reverse rest) b a

-- ---- the end that is meant

pub length-end_last : (front : Bool) (cs : List Inscribed) → length (end_last front cs) ≡ length cs
length-end_last true cs = length-reverse cs
length-end_last false cs = refl

pub too_few_at_end : (front : Bool) (store : List Float) (n : ℕ) → n < 2 → last_pair (end_last front (circles_of store n)) ≡ Err TooFewCircles
too_few_at_end front store n h = few_circles (end_last front (circles_of store n)) (omega (arith, length-end_last front (circles_of store n), length-circles store 0 n))
