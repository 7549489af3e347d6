-- The machine of a march: its measure falls, its list grows, its pairs stay settled, and while circles wait it moves as a refinement does. Assumes nothing.
use mathlib.Core.Path.{◌≡◌, refl, ap, ◌∙◌}
use mathlib.Core.Bool.{Bool, true, false, cond}
use mathlib.Core.List.{List, [], ◌∷◌}
use Rattle.std.specs.Prelude.{Option, Some, None, Ok, Err}
use Prim.Native.Nat.{ℕ, suc, ◌≤◌, ◌<◌}
use native.Mathlib.Omega.{arith}
use borrow.Author.Tests.{ltb-true}
use lib.Dec.{leb, ltb}
use lib.ListN.{length}
use lib.Ieee.{Float, lt}
use Rattle.errors.specs.Answer.{Answer}
use Rattle.errors.specs.Lists.{last_of}
use Rattle.queries.specs.declared.Crossing.{Crossing}
use Rattle.runs.specs.Run.{Move, ends, goes, pays, under_limit, whole}
use Rattle.runs.proofs.RunLaws.{Falls}
use Rattle.runs.proofs.LimitLaws.{Grows, run_holds, units_within}
use Rattle.inscribed.specs.declared.Inscribed.{Inscribed}
use Rattle.circles.specs.Trial.{trial}
use Rattle.halving.specs.Halving.{from_crossing}
use Rattle.refine.specs.Machine.{most_waiting, State, refining, advancing, stopped, circles_in, End, finished, with_room, after_room, after_trial, measure, refine_step}
use Rattle.refine.proofs.MoveLaws.{no_goes, no_pays, move_goes, move_pays, move_falls}
use Rattle.refine.proofs.MachineLaws.{Part, no_more, part_same, part_chain, move_part, Sound, move_sound, Fits, refine-fits-goes, refine-fits-pays}
use Rattle.advance.specs.Advance.{MarchAhead, done, advance_ray, look_ahead, step_of, tried_line}
use Rattle.camber.specs.March.{after_circle, after_line, advance_move, march_step, march_run}
use Rattle.errors.specs.declared.Refusal.TheVariants.{NoAdvance, StackFull, StoreFull}

-- ---- what an advance leads to: the list stays as it is, and the measure falls

pub record Advanced (slots : ℕ) (cs : List Inscribed) (k : ℕ) (t : State) : Type 0 where
  pub kept : circles_in t ≡ cs
  pub falls : measure slots t < measure slots (advancing cs k)

circle_advanced : (slots : ℕ) (cs : List Inscribed) (k : ℕ) (a : Answer Inscribed) → Advanced slots cs k (after_circle cs a)
unfolding after_circle measure
circle_advanced slots cs k (Err n) = record { kept = refl; falls = omega arith }
circle_advanced slots cs k (Ok d) = record { kept = refl; falls = omega arith }

line_advanced : (ns : List Float) (tol : Float) (slots : ℕ) (cs : List Inscribed) (k : ℕ) (a : Answer (Option Crossing)) → Advanced slots cs k (after_line ns tol cs k a)
unfolding after_line measure
line_advanced ns tol slots cs k (Err n) = record { kept = refl; falls = omega arith }
line_advanced ns tol slots cs k (Ok None) = go (ltb k 3) (ltb-true k 3)
  where
    go : (b : Bool) → (b ≡ true → k < 3) → Advanced slots cs k (cond b (advancing cs (suc k)) (stopped cs NoAdvance))
    go true h = record { kept = refl; falls = omega (arith, h refl) }
    go false h = record { kept = refl; falls = omega arith }
line_advanced ns tol slots cs k (Ok (Some x)) = circle_advanced slots cs k (from_crossing ns tol x)

module _ (ns : List Float) (tol : Float) (slots : ℕ) (cs : List Inscribed) (c : Inscribed) (k : ℕ) where
  pub advance-goes : {A : Type 0} (a : Answer MarchAhead) (t : State) → advance_move ns tol cs c k a ≡ goes t → A
  unfolding advance_move
  advance-goes (Err n) t p = no_goes p
  advance-goes (Ok done) t p = no_goes p
  advance-goes {A} (Ok (advance_ray ray)) t p = go (lt (step_of c k) tol) p
    where
      go : (b : Bool) → cond {A = Move State End} b (ends finished) (pays (after_line ns tol cs k (tried_line ns c ray k))) ≡ goes t → A
      go true q = no_goes q
      go false q = let z : ◌≡◌ {A = ℕ} 0 1 = cc in absurd (omega arith)

  pub advance-pays : (a : Answer MarchAhead) (t : State) → advance_move ns tol cs c k a ≡ pays t → Advanced slots cs k t
  unfolding advance_move
  advance-pays (Err n) t p = no_pays p
  advance-pays (Ok done) t p = no_pays p
  advance-pays (Ok (advance_ray ray)) t p = go (lt (step_of c k) tol) p
    where
      go : (b : Bool) → cond {A = Move State End} b (ends finished) (pays (after_line ns tol cs k (tried_line ns c ray k))) ≡ pays t → Advanced slots cs k t
      go true q = no_pays q
      go false q = let e : t ≡ after_line ns tol cs k (tried_line ns c ray k) = cc in rw e (line_advanced ns tol slots cs k (tried_line ns c ray k))

-- ---- the measure falls

pub march_falls : (ns : List Float) (tol : Float) (slots : ℕ) → Falls (march_step ns tol slots) (measure slots)
unfolding march_step
march_falls ns tol slots (refining cs []) t = (λ p. let e : t ≡ advancing cs 0 = cc in rw e (unfold measure in omega arith), λ p. let z : ◌≡◌ {A = ℕ} 0 1 = cc in absurd (omega arith))
march_falls ns tol slots (refining cs (b ∷ ws)) t = move_falls ns tol slots cs b ws t
march_falls ns tol slots (advancing [] k) t = (λ p. no_goes p, λ p. no_pays p)
march_falls ns tol slots (advancing (c ∷ cs) k) t = (λ p. advance-goes ns tol slots (c ∷ cs) (last_of c cs) k (look_ahead ns (last_of c cs)) t p, λ p. (advance-pays ns tol slots (c ∷ cs) (last_of c cs) k (look_ahead ns (last_of c cs)) t p).falls)
march_falls ns tol slots (stopped cs n) t = (λ p. no_goes p, λ p. no_pays p)

-- ---- the list grows at its end

same_part : (s t : State) → circles_in t ≡ circles_in s → Part s t
same_part s t e = ([], e ∙ no_more (circles_in s))

march-goes : (ns : List Float) (tol : Float) (slots : ℕ) (s t : State) → march_step ns tol slots s ≡ goes t → Part s t
unfolding march_step
march-goes ns tol slots (refining cs []) t p = let e : t ≡ advancing cs 0 = cc in same_part (refining cs []) t (ap circles_in e)
march-goes ns tol slots (refining cs (b ∷ ws)) t p = (move_part ns tol slots cs b ws t).0 p
march-goes ns tol slots (advancing [] k) t p = no_goes p
march-goes ns tol slots (advancing (c ∷ cs) k) t p = advance-goes ns tol slots (c ∷ cs) (last_of c cs) k (look_ahead ns (last_of c cs)) t p
march-goes ns tol slots (stopped cs n) t p = no_goes p

march-pays : (ns : List Float) (tol : Float) (slots : ℕ) (s t : State) → march_step ns tol slots s ≡ pays t → Part s t
unfolding march_step
march-pays ns tol slots (refining cs []) t p = let z : ◌≡◌ {A = ℕ} 0 1 = cc in absurd (omega arith)
march-pays ns tol slots (refining cs (b ∷ ws)) t p = (move_part ns tol slots cs b ws t).1 p
march-pays ns tol slots (advancing [] k) t p = no_pays p
march-pays ns tol slots (advancing (c ∷ cs) k) t p = same_part (advancing (c ∷ cs) k) t (advance-pays ns tol slots (c ∷ cs) (last_of c cs) k (look_ahead ns (last_of c cs)) t p).kept
march-pays ns tol slots (stopped cs n) t p = no_pays p

pub march_grows : (ns : List Float) (tol : Float) (slots : ℕ) → Grows (march_step ns tol slots) Part
march_grows ns tol slots = record { same = part_same; chain = part_chain; goes_on = march-goes ns tol slots; pays_on = march-pays ns tol slots }

-- ---- no pair would be refined again

same_sound : (ns : List Float) (tol : Float) (n : ℕ) (s t : State) → circles_in t ≡ circles_in s → Sound ns tol n s → Sound ns tol n t
same_sound ns tol n s t e h = record { held = rw e h.held; settled = rw e h.settled }

module _ (ns : List Float) (tol : Float) (n slots : ℕ) where
  pub march_sound_goes : (s t : State) → march_step ns tol slots s ≡ goes t → Sound ns tol n s → Sound ns tol n t
  unfolding march_step
  march_sound_goes (refining cs []) t p h = let e : t ≡ advancing cs 0 = cc in same_sound ns tol n (refining cs []) t (ap circles_in e) h
  march_sound_goes (refining cs (b ∷ ws)) t p h = (move_sound ns tol n slots cs b ws t h).0 p
  march_sound_goes (advancing [] k) t p h = no_goes p
  march_sound_goes (advancing (c ∷ cs) k) t p h = advance-goes ns tol slots (c ∷ cs) (last_of c cs) k (look_ahead ns (last_of c cs)) t p
  march_sound_goes (stopped cs m) t p h = no_goes p

  pub march_sound_pays : (s t : State) → march_step ns tol slots s ≡ pays t → Sound ns tol n s → Sound ns tol n t
  unfolding march_step
  march_sound_pays (refining cs []) t p h = let z : ◌≡◌ {A = ℕ} 0 1 = cc in absurd (omega arith)
  march_sound_pays (refining cs (b ∷ ws)) t p h = (move_sound ns tol n slots cs b ws t h).1 p
  march_sound_pays (advancing [] k) t p h = no_pays p
  march_sound_pays (advancing (c ∷ cs) k) t p h = same_sound ns tol n (advancing (c ∷ cs) k) t (advance-pays ns tol slots (c ∷ cs) (last_of c cs) k (look_ahead ns (last_of c cs)) t p).kept h
  march_sound_pays (stopped cs m) t p h = no_pays p

-- ---- the list keeps to the slots

module _ (ns : List Float) (tol : Float) (slots : ℕ) where
  march-fits-goes : (s t : State) → march_step ns tol slots s ≡ goes t → Fits ns tol slots s → Fits ns tol slots t
  unfolding march_step refine_step
  march-fits-goes (refining cs []) t p h = let e : t ≡ advancing cs 0 = cc in rw e h
  march-fits-goes (refining cs (b ∷ ws)) t p h = refine-fits-goes ns tol slots (refining cs (b ∷ ws)) t p h
  march-fits-goes (advancing [] k) t p h = no_goes p
  march-fits-goes (advancing (c ∷ cs) k) t p h = advance-goes ns tol slots (c ∷ cs) (last_of c cs) k (look_ahead ns (last_of c cs)) t p
  march-fits-goes (stopped cs m) t p h = no_goes p

  march-fits-pays : (s t : State) → march_step ns tol slots s ≡ pays t → Fits ns tol slots s → Fits ns tol slots t
  unfolding march_step refine_step
  march-fits-pays (refining cs []) t p h = let z : ◌≡◌ {A = ℕ} 0 1 = cc in absurd (omega arith)
  march-fits-pays (refining cs (b ∷ ws)) t p h = refine-fits-pays ns tol slots (refining cs (b ∷ ws)) t p h
  march-fits-pays (advancing [] k) t p h = no_pays p
  march-fits-pays (advancing (c ∷ cs) k) t p h = rw (advance-pays ns tol slots (c ∷ cs) (last_of c cs) k (look_ahead ns (last_of c cs)) t p).kept h
  march-fits-pays (stopped cs m) t p h = no_pays p

  pub march-fits : (full : ℕ → Bool) (s : State) (u : ℕ) → Fits ns tol slots s → length (circles_in (march_run ns tol slots full s u).state) ≤ slots
  unfolding whole
  march-fits full s u h = run_holds (march_step ns tol slots) full (Fits ns tol slots) march-fits-goes march-fits-pays (suc (measure slots s)) s u h

  pub march-units : (limit : ℕ) (s : State) (u : ℕ) → u ≤ limit → (march_run ns tol slots (under_limit limit) s u).units ≤ limit
  unfolding whole
  march-units limit s u h = units_within (march_step ns tol slots) limit (suc (measure slots s)) s u h

-- ---- while circles wait, a march is a refinement

abbrev pub Refines : State → Type 0
Refines (refining cs ws) = Unit {0}
Refines (advancing cs k) = ⊥
Refines (stopped cs n) = Unit {0}

module _ (ns : List Float) (tol : Float) (slots : ℕ) where
  pub march_alike : (s : State) → Refines s → (refine_step ns tol slots s ≡ ends finished → ⊥) → march_step ns tol slots s ≡ refine_step ns tol slots s
  unfolding march_step refine_step
  march_alike (refining cs []) h n = absurd (n refl)
  march_alike (refining cs (b ∷ ws)) h n = refl
  march_alike (advancing cs k) h n = absurd h
  march_alike (stopped cs m) h n = refl

  pub refines_goes : (s t : State) → Refines s → refine_step ns tol slots s ≡ goes t → Refines t
  unfolding refine_step
  refines_goes (refining cs []) t h p = no_goes p
  refines_goes (refining cs (b ∷ ws)) t h p = rw (move_goes ns tol slots b ws cs t p).2 tt
  refines_goes (advancing cs k) t h p = absurd h
  refines_goes (stopped cs m) t h p = no_goes p

  after_refines : (cs : List Inscribed) (b : Inscribed) (ws : List Inscribed) (r : Answer (Option Inscribed)) → Refines (after_trial slots cs b ws r)
  unfolding after_trial with_room
  after_refines cs b ws (Err n) = tt
  after_refines cs b ws (Ok (Some d)) = go (leb most_waiting (suc (length ws)))
    where
      go : (x : Bool) → Refines (after_room cs b ws (cond x (Err StackFull) (Ok (Some d))))
      go true = tt
      go false = tt
  after_refines cs b ws (Ok None) = go (leb slots (length cs))
    where
      go : (x : Bool) → Refines (after_room cs b ws (cond x (Err StoreFull) (Ok None)))
      go true = tt
      go false = tt

  pub refines_pays : (s t : State) → Refines s → refine_step ns tol slots s ≡ pays t → Refines t
  unfolding refine_step
  refines_pays (refining cs []) t h p = no_pays p
  refines_pays (refining cs (b ∷ ws)) t h p =
      let m = move_pays ns tol slots b ws cs t p in
      rw m.3 (after_refines cs b ws (trial ns tol (last_of m.0 m.1) b))
  refines_pays (advancing cs k) t h p = absurd h
  refines_pays (stopped cs m) t h p = no_pays p
