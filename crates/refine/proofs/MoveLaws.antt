-- The moves of a refinement: what each leads to, and that it makes its measure fall. Assumes nothing.
use mathlib.Core.Path.{◌≡◌, refl}
use mathlib.Core.Bool.{Bool, true, false, cond}
use mathlib.Core.List.{List, [], ◌∷◌}
use Rattle.std.specs.Prelude.{Option, Some, None, Ok, Err}
use Prim.Native.Nat.{ℕ, suc, ◌≤◌, ◌<◌}
use native.Mathlib.Omega.{arith}
use borrow.Author.Tests.{leb-false}
use lib.Dec.{leb}
use lib.ListN.{length, length-append}
use lib.Ieee.{Float}
use Rattle.errors.specs.Answer.{Answer}
use Rattle.errors.specs.Lists.{last_of}
use Rattle.runs.specs.Run.{Move, ends, goes, pays}
use Rattle.runs.proofs.RunLaws.{Falls}
use Rattle.circles.specs.Trial.{trial}
use Rattle.inscribed.specs.declared.Inscribed.{Inscribed}
use Rattle.refine.specs.Machine.{most_waiting, State, refining, advancing, stopped, End, with_room, after_room, after_trial, refine_move, waiting_left, measure, refine_step}
use Rattle.errors.specs.declared.Refusal.TheVariants.{StackFull, StoreFull}

-- two moves that differ
pub no_goes : {A S E : Type 0} {e : E} {t : S} → ◌≡◌ {A = Move S E} (ends e) (goes t) → A
no_goes p = let z : ◌≡◌ {A = ℕ} 0 1 = cc in absurd (omega arith)

pub no_pays : {A S E : Type 0} {e : E} {t : S} → ◌≡◌ {A = Move S E} (ends e) (pays t) → A
no_pays p = let z : ◌≡◌ {A = ℕ} 0 1 = cc in absurd (omega arith)

pub pays_no_goes : {A S E : Type 0} {s t : S} → ◌≡◌ {A = Move S E} (pays s) (goes t) → A
pays_no_goes p = let z : ◌≡◌ {A = ℕ} 0 1 = cc in absurd (omega arith)

pub goes_no_pays : {A S E : Type 0} {s t : S} → ◌≡◌ {A = Move S E} (goes s) (pays t) → A
goes_no_pays p = let z : ◌≡◌ {A = ℕ} 0 1 = cc in absurd (omega arith)

-- ---- what a move while circles wait leads to

module _ (ns : List Float) (tol : Float) (slots : ℕ) (b : Inscribed) (ws : List Inscribed) where
  -- without a unit: the first circle of an empty list
  pub move_goes : (cs : List Inscribed) (t : State) → refine_move ns tol slots cs b ws ≡ goes t → (cs ≡ []) × (0 < slots) × (t ≡ refining (b ∷ []) ws)
  unfolding refine_move
  move_goes [] t p = go (leb slots 0) (leb-false slots 0) p
    where
      go : (x : Bool) → (x ≡ false → 0 < slots) → cond {A = Move State End} x (ends (Err StoreFull)) (goes (refining (b ∷ []) ws)) ≡ goes t → (◌≡◌ {A = List Inscribed} [] []) × (0 < slots) × (t ≡ refining (b ∷ []) ws)
      go true h q = no_goes q
      go false h q = (refl, h refl, cc)
  move_goes (c ∷ cs) t p = pays_no_goes p

  -- with one: the trial against the last
  pub move_pays : (cs : List Inscribed) (t : State) → refine_move ns tol slots cs b ws ≡ pays t
      → (c : Inscribed) × (ds : List Inscribed) × (cs ≡ c ∷ ds) × (t ≡ after_trial slots cs b ws (trial ns tol (last_of c ds) b))
  unfolding refine_move
  move_pays [] t p = go (leb slots 0) p
    where
      go : (x : Bool) → cond {A = Move State End} x (ends (Err StoreFull)) (goes (refining (b ∷ []) ws)) ≡ pays t
          → (c : Inscribed) × (ds : List Inscribed) × (◌≡◌ {A = List Inscribed} [] (c ∷ ds)) × (t ≡ after_trial slots [] b ws (trial ns tol (last_of c ds) b))
      go true q = no_pays q
      go false q = goes_no_pays q
  move_pays (c ∷ cs) t p = (c, cs, refl, cc)

-- ---- the measure falls

left_most : (ws : List Inscribed) → waiting_left ws ≤ 80
left_most [] = omega arith
left_most (b ∷ ws) = omega arith

pub after_falls : (slots : ℕ) (cs : List Inscribed) (b : Inscribed) (ws : List Inscribed) (r : Answer (Option Inscribed)) → measure slots (after_trial slots cs b ws r) < measure slots (refining cs (b ∷ ws))
unfolding after_trial with_room measure
after_falls slots cs b ws (Err n) = omega arith
after_falls slots cs b ws (Ok (Some d)) = go (leb most_waiting (suc (length ws))) (leb-false most_waiting (suc (length ws)))
  where
    go : (x : Bool) → (x ≡ false → suc (length ws) < most_waiting) → measure slots (after_room cs b ws (cond x (Err StackFull) (Ok (Some d)))) < measure slots (refining cs (b ∷ ws))
    go true h = omega arith
    go false h = omega (arith, h refl)
after_falls slots cs b ws (Ok None) = go (leb slots (length cs)) (leb-false slots (length cs))
  where
    go : (x : Bool) → (x ≡ false → length cs < slots) → measure slots (after_room cs b ws (cond x (Err StoreFull) (Ok None))) < measure slots (refining cs (b ∷ ws))
    go true h = omega arith
    go false h = omega (arith, h refl, length-append cs (b ∷ []), left_most ws)

pub first_falls : (slots : ℕ) (b : Inscribed) (ws : List Inscribed) → 0 < slots → measure slots (refining (b ∷ []) ws) < measure slots (refining [] (b ∷ ws))
unfolding measure
first_falls slots b ws h = omega (arith, left_most ws)

pub move_falls : (ns : List Float) (tol : Float) (slots : ℕ) (cs : List Inscribed) (b : Inscribed) (ws : List Inscribed) (t : State)
    → (refine_move ns tol slots cs b ws ≡ goes t → measure slots t < measure slots (refining cs (b ∷ ws))) × (refine_move ns tol slots cs b ws ≡ pays t → measure slots t < measure slots (refining cs (b ∷ ws)))
move_falls ns tol slots cs b ws t = (
  λ p. let k = move_goes ns tol slots b ws cs t p in rw (k.2, k.0) (first_falls slots b ws k.1),
  λ p. let k = move_pays ns tol slots b ws cs t p in rw k.3 (after_falls slots cs b ws _),
)

pub refine_falls : (ns : List Float) (tol : Float) (slots : ℕ) → Falls (refine_step ns tol slots) (measure slots)
unfolding refine_step
refine_falls ns tol slots (refining cs []) t = (λ p. no_goes p, λ p. no_pays p)
refine_falls ns tol slots (refining cs (b ∷ ws)) t = move_falls ns tol slots cs b ws t
refine_falls ns tol slots (advancing cs k) t = (λ p. no_goes p, λ p. no_pays p)
refine_falls ns tol slots (stopped cs n) t = (λ p. no_goes p, λ p. no_pays p)
