-- The waiting circles of a state, written and read. Assumes nothing.
use mathlib.Core.Path.{◌≡◌, refl, sym, ap, ◌∙◌}
use mathlib.Core.List.{List, [], ◌∷◌, ◌++◌}
use Prim.Native.Nat.{ℕ, zero, suc, ◌+◌, ◌*◌, ◌≤◌, ◌<◌}
use native.Mathlib.Omega.{arith}
use native.Mathlib.Numerals.{add-one}
use lib.ListN.{length, take, get_or, length-take, replicate}
use lib.Ieee.{Float, nan}
use Rattle.std.proofs.lemmas.List.{take_more, take_all}
use Rattle.points.specs.Numbers.{f0}
use Rattle.refine.specs.Machine.{most_waiting}
use Rattle.inscribed.specs.Store.{width, circle_at, circles_from, circles_of, stored, all_numbers}
use Rattle.inscribed.specs.Code.{with_circle}
use Rattle.inscribed.specs.declared.Inscribed.{Inscribed}
use Rattle.inscribed.proofs.StoreLaws.{stored_push}

pub numbers_start : (ws : List Inscribed) → ◌≡◌ {A = List Float} (replicate (most_waiting * width) f0) (stored (take 0 ws) (replicate (most_waiting * width) f0))
unfolding stored all_numbers
numbers_start ws = refl

pub numbers_step : (ws : List Inscribed) (ns old : List Float) (k : ℕ) (d : Inscribed) → k < length ws → ns ≡ stored (take k ws) old → with_circle ns k (get_or ws k d) ≡ stored (take (k + 1) ws) old
numbers_step ws ns old k d h e =
    let long : length (take k ws) ≡ k = omega (arith, length-take k ws, h) in
    ap (λ (x : List Float). with_circle x k (get_or ws k d)) e
    ∙ ap (λ (j : ℕ). with_circle (stored (take k ws) old) j (get_or ws k d)) (sym long)
    ∙ stored_push (take k ws) old (get_or ws k d)
    ∙ ap (λ (x : List Inscribed). stored x old) (sym (take_more ws k d h))

pub circles_more : (ns : List Float) (k : ℕ) → circles_of ns (k + 1) ≡ circles_of ns k ++ (circle_at ns k ∷ [])
unfolding circles_from
circles_more ns k = rw (add-one k) (grows 0 k ∙ zero_first)
  where
    grows : (i k : ℕ) → circles_from ns i (suc k) ≡ circles_from ns i k ++ (circle_at ns (i + k) ∷ [])
    grows i zero = let e : i + 0 ≡ i = omega arith in rw e refl
    grows i (suc k) =
        let e : suc i + k ≡ i + suc k = omega arith in
        ap (λ (x : List Inscribed). circle_at ns i ∷ x) (grows (suc i) k ∙ ap (λ (j : ℕ). circles_from ns (suc i) k ++ (circle_at ns j ∷ [])) e)

    zero_first : circles_of ns k ++ (circle_at ns (0 + k) ∷ []) ≡ circles_of ns k ++ (circle_at ns k ∷ [])
    zero_first = let e : 0 + k ≡ k = omega arith in ap (λ (j : ℕ). circles_of ns k ++ (circle_at ns j ∷ [])) e

abbrev pub no_circle : Inscribed
no_circle = record { cx = nan; cy = nan; r = nan; p0x = nan; p0y = nan; p1x = nan; p1y = nan; l0 = nan; l1 = nan }

pub numbers_all : (ws : List Inscribed) (ns old : List Float) (k : ℕ) → length ws ≤ k → ns ≡ stored (take k ws) old → ns ≡ stored ws old
numbers_all ws ns old k h e = e ∙ ap (λ (x : List Inscribed). stored x old) (take_all k ws h)

pub circles_start : (ns : List Float) → ◌≡◌ {A = List Inscribed} [] (circles_of ns 0)
unfolding circles_from
circles_start ns = refl
