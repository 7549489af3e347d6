-- The samples of the camber, taken one after the other. Assumes nothing.
use mathlib.Core.Path.{◌≡◌, refl, sym, ap, ◌∙◌}
use mathlib.Core.Bool.{Bool, true, false, cond}
use mathlib.Core.List.{List, [], ◌∷◌, ◌++◌, append_assoc, append-nil}
use Prim.Native.Nat.{ℕ, zero, suc, ◌+◌, ◌-◌, ◌≤◌, ◌<◌}
use native.Mathlib.Numerals.{add-one}
use native.Mathlib.Omega.{arith}
use lib.ListN.{length, set, take}
use lib.Seq.{take-length}
use Rattle.std.proofs.lemmas.List.{take_more_set}
use lib.Ieee.{Float}
use Rattle.std.specs.Prelude.{Ok, Err}
use Rattle.errors.specs.Answer.{Answer, watched, ◌>>=◌}
use Rattle.errors.specs.declared.Refusal.{Refusal}
use Rattle.errors.specs.declared.Refusal.TheVariants.{ZeroLength}
use Rattle.points.specs.declared.Point2.{Point2}
use Rattle.curve2.specs.Section.{is_closed, whole_length}
use Rattle.orient.specs.Camber.{Camber}
use Rattle.orient.specs.Curvature.{sample_count, sample_at, samples_from, samples_of}

-- ---- samples taken one after the other

-- the samples that stand, and those left
abbrev after : List Point2 → Answer (List Point2) → Answer (List Point2)
after ps left = left >>= λ qs. Ok (ps ++ qs)

after_none : (left : Answer (List Point2)) → after [] left ≡ left
after_none (Ok qs) = refl
after_none (Err n) = refl

after_one : (ps : List Point2) (p : Point2) (left : Answer (List Point2)) → after ps (left >>= λ qs. Ok (p ∷ qs)) ≡ after (ps ++ (p ∷ [])) left
after_one ps p (Ok qs) = rw (append_assoc ps (p ∷ []) qs)
after_one ps p (Err n) = refl

module _ (camber : Camber) (whole : Float) where
  -- the first i of these points are samples
  pub Taken : List Point2 → ℕ → Type 0
  Taken points i = after (take i points) (samples_from camber whole i (sample_count - i)) ≡ samples_from camber whole 0 sample_count

  pub taken_none : (points : List Point2) → Taken points 0
  unfolding Taken
  taken_none points = after_none (samples_from camber whole 0 sample_count)

  module _ (points : List Point2) (i : ℕ) (long : length points ≡ sample_count) (m : Taken points i) where
    module _ (h : i < sample_count) where
      step : after (take i points) (sample_at camber whole i >>= λ p. samples_from camber whole (i + 1) (sample_count - (i + 1)) >>= λ ps. Ok (p ∷ ps)) ≡ samples_from camber whole 0 sample_count
      unfolding samples_from Taken
      step = let z : sample_count - i ≡ suc (sample_count - (i + 1)) = omega arith in rw (add-one i) (rw (z, add-one i) at m)

      pub taken_one : (p : Point2) → Ok p ≡ sample_at camber whole i → Taken (set points i p) (i + 1)
      unfolding Taken
      taken_one p e =
          rw (take_more_set points i p (omega (arith, long))) (sym (after_one (take i points) p (samples_from camber whole (i + 1) (sample_count - (i + 1)))) ∙ (rw (← e) at step))

      pub sample_refused : (n : Refusal) → Err n ≡ sample_at camber whole i → Err n ≡ samples_from camber whole 0 sample_count
      sample_refused n e = rw (← e) at step

    pub taken_all : i ≤ sample_count → sample_count ≤ i → Ok points ≡ samples_from camber whole 0 sample_count
    unfolding Taken samples_from
    taken_all g h =
        let z : sample_count - i ≡ 0 = omega arith in
        let end : i ≡ length points = omega (arith, long) in
        rw (z, append-nil, end, take-length points) at m

-- ---- "all fifty are used, none dropped"

count_in : Answer (List Point2) → ℕ
count_in (Ok ps) = length ps
count_in (Err n) = 0

samples_count : (camber : Camber) (whole : Float) (i n : ℕ) (ps : List Point2) → samples_from camber whole i n ≡ Ok ps → length ps ≡ n
unfolding samples_from count_in
samples_count camber whole i zero ps e = sym (ap count_in e)
samples_count camber whole i (suc n) ps e = go (sample_at camber whole i) (samples_from camber whole (suc i) n) (samples_count camber whole (suc i) n) e
  where
    go : (a : Answer Point2) (b : Answer (List Point2)) → ((qs : List Point2) → b ≡ Ok qs → length qs ≡ n) → (a >>= λ p. b >>= λ qs. Ok (p ∷ qs)) ≡ Ok ps → length ps ≡ suc n
    go (Ok p) (Ok qs) more f = sym (ap count_in f) ∙ ap suc (more qs refl)
    go (Ok p) (Err k) more f = let z : ◌≡◌ {A = ℕ} 0 1 = cc in absurd (omega arith)
    go (Err k) b more f = let z : ◌≡◌ {A = ℕ} 0 1 = cc in absurd (omega arith)

pub samples_fifty : (camber : Camber) (ps : List Point2) → samples_of camber ≡ Ok ps → length ps ≡ 50
unfolding samples_of
samples_fifty camber ps e = go (is_closed camber.numbers camber.tolerance) (watched (whole_length camber.numbers)) e
  where
    go : (closed : Bool) (length-of : Answer Float) → cond closed (Err ZeroLength) (length-of >>= λ whole. samples_from camber whole 0 sample_count) ≡ Ok ps → length ps ≡ 50
    go true a f = let z : ◌≡◌ {A = ℕ} 0 1 = cc in absurd (omega arith)
    go false (Ok whole) f = samples_count camber whole 0 sample_count ps f
    go false (Err k) f = let z : ◌≡◌ {A = ℕ} 0 1 = cc in absurd (omega arith)
