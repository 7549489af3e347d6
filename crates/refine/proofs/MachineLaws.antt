-- The machine of refinements: each move makes its list grow; what every move keeps. Assumes nothing.
use mathlib.Core.Path.{◌≡◌, refl, ap, ◌∙◌}
use mathlib.Core.Bool.{Bool, true, false, cond}
use mathlib.Core.List.{List, [], ◌∷◌, ◌++◌, append_assoc}
use mathlib.Core.Logic.{◌⊎◌, inl, inr, ⊎_elim}
use Rattle.std.specs.Prelude.{Option, Some, None, Ok, Err}
use Prim.Native.Nat.{ℕ, zero, suc, ◌-◌, ◌≤◌, ◌<◌}
use native.Mathlib.Omega.{arith}
use borrow.Author.Tests.{leb-false}
use lib.Dec.{leb}
use lib.ListN.{length, drop, length-append}
use lib.Seq.{drop-append-le}
use lib.Ieee.{Float}
use Rattle.errors.specs.Answer.{Answer}
use Rattle.errors.specs.Lists.{last_of}
use Rattle.runs.specs.Run.{goes, pays, whole}
use Rattle.runs.proofs.LimitLaws.{Grows, run_holds}
use Rattle.circles.specs.Trial.{trial}
use Rattle.inscribed.specs.declared.Inscribed.{Inscribed}
use Rattle.refine.specs.Machine.{most_waiting, State, refining, advancing, stopped, circles_in, with_room, after_room, after_trial, refine_move, measure, refine_step, refine_run}
use Rattle.refine.proofs.MoveLaws.{no_goes, no_pays, move_goes, move_pays}
use Rattle.refine.specs.Law.{Settled}
use Rattle.errors.specs.declared.Refusal.TheVariants.{StackFull, StoreFull}

-- ---- the list grows at its end

abbrev pub Part : State → State → Type 0
Part s t = (more : List Inscribed) × (circles_in t ≡ circles_in s ++ more)

pub no_more : (cs : List Inscribed) → cs ≡ cs ++ []
no_more [] = refl
no_more (c ∷ cs) = ap (λ (x : List Inscribed). c ∷ x) (no_more cs)

pub part_same : (s : State) → Part s s
part_same s = ([], no_more (circles_in s))

pub part_chain : (s t v : State) → Part s t → Part t v → Part s v
part_chain s t v p q = (p.0 ++ q.0, q.1 ∙ rw p.1 (append_assoc (circles_in s) p.0 q.0))

pub after_part : (slots : ℕ) (cs : List Inscribed) (b : Inscribed) (ws : List Inscribed) (r : Answer (Option Inscribed)) → Part (refining cs (b ∷ ws)) (after_trial slots cs b ws r)
unfolding after_trial with_room
after_part slots cs b ws (Err n) = ([], no_more cs)
after_part slots cs b ws (Ok (Some d)) = go (leb most_waiting (suc (length ws)))
  where
    go : (x : Bool) → Part (refining cs (b ∷ ws)) (after_room cs b ws (cond x (Err StackFull) (Ok (Some d))))
    go true = ([], no_more cs)
    go false = ([], no_more cs)
after_part slots cs b ws (Ok None) = go (leb slots (length cs))
  where
    go : (x : Bool) → Part (refining cs (b ∷ ws)) (after_room cs b ws (cond x (Err StoreFull) (Ok None)))
    go true = ([], no_more cs)
    go false = (b ∷ [], refl)

pub move_part : (ns : List Float) (tol : Float) (slots : ℕ) (cs : List Inscribed) (b : Inscribed) (ws : List Inscribed) (t : State)
    → (refine_move ns tol slots cs b ws ≡ goes t → Part (refining cs (b ∷ ws)) t) × (refine_move ns tol slots cs b ws ≡ pays t → Part (refining cs (b ∷ ws)) t)
move_part ns tol slots cs b ws t = (
  λ p. let k = move_goes ns tol slots b ws cs t p in rw (k.2, k.0) (b ∷ [], refl),
  λ p. let k = move_pays ns tol slots b ws cs t p in rw k.3 (after_part slots cs b ws _),
)

refine-goes : (ns : List Float) (tol : Float) (slots : ℕ) (s t : State) → refine_step ns tol slots s ≡ goes t → Part s t
unfolding refine_step
refine-goes ns tol slots (refining cs []) t p = no_goes p
refine-goes ns tol slots (refining cs (b ∷ ws)) t p = (move_part ns tol slots cs b ws t).0 p
refine-goes ns tol slots (advancing cs k) t p = no_goes p
refine-goes ns tol slots (stopped cs n) t p = no_goes p

refine-pays : (ns : List Float) (tol : Float) (slots : ℕ) (s t : State) → refine_step ns tol slots s ≡ pays t → Part s t
unfolding refine_step
refine-pays ns tol slots (refining cs []) t p = no_pays p
refine-pays ns tol slots (refining cs (b ∷ ws)) t p = (move_part ns tol slots cs b ws t).1 p
refine-pays ns tol slots (advancing cs k) t p = no_pays p
refine-pays ns tol slots (stopped cs n) t p = no_pays p

pub refine_grows : (ns : List Float) (tol : Float) (slots : ℕ) → Grows (refine_step ns tol slots) Part
refine_grows ns tol slots = record { same = part_same; chain = part_chain; goes_on = refine-goes ns tol slots; pays_on = refine-pays ns tol slots }

-- ---- no pair would be refined again

settled_more : (ns : List Float) (tol : Float) (a : Inscribed) (cs : List Inscribed) (b : Inscribed) → Settled ns tol (a ∷ cs) → trial ns tol (last_of a cs) b ≡ Ok None → Settled ns tol (a ∷ (cs ++ (b ∷ [])))
unfolding last_of
settled_more ns tol a [] b s e = (e, tt)
settled_more ns tol a (d ∷ cs) b s e = (s.0, settled_more ns tol d cs b s.1 e)

last_drop : (c : Inscribed) (cs : List Inscribed) (j : ℕ) → j ≤ length cs → (a : Inscribed) × (ds : List Inscribed) × (drop j (c ∷ cs) ≡ a ∷ ds) × (last_of a ds ≡ last_of c cs)
unfolding last_of
last_drop c cs zero h = (c, cs, refl, refl)
last_drop c [] (suc j) h = absurd (omega arith)
last_drop c (d ∷ cs) (suc j) h = last_drop d cs j (omega arith)

-- from the circle at j on, which is in the list
settled-accepted : (ns : List Float) (tol : Float) (j : ℕ) (c : Inscribed) (cs : List Inscribed) (b : Inscribed) → j ≤ length cs → Settled ns tol (drop j (c ∷ cs)) → trial ns tol (last_of c cs) b ≡ Ok None
    → Settled ns tol (drop j ((c ∷ cs) ++ (b ∷ [])))
settled-accepted ns tol j c cs b h s e =
    let l = last_drop c cs j h in
    rw (drop-append-le j (c ∷ cs) (b ∷ []) (omega arith), l.2)
    (settled_more ns tol l.0 l.1 b (rw l.2 at s) (ap (λ (x : Inscribed). trial ns tol x b) l.3 ∙ e))

-- k old circles are in the list, and from their last on no pair would be refined again
pub record Sound (ns : List Float) (tol : Float) (k : ℕ) (s : State) : Type 0 where
  pub held : k ≤ length (circles_in s)
  pub settled : Settled ns tol (drop (k - 1) (circles_in s))

module _ (ns : List Float) (tol : Float) (k slots : ℕ) where
  after_sound : (c : Inscribed) (cs : List Inscribed) (b : Inscribed) (ws : List Inscribed) (r : Answer (Option Inscribed)) → trial ns tol (last_of c cs) b ≡ r → Sound ns tol k (refining (c ∷ cs) (b ∷ ws))
      → Sound ns tol k (after_trial slots (c ∷ cs) b ws r)
  unfolding after_trial with_room
  after_sound c cs b ws (Err n) e h = record { held = h.held; settled = h.settled }
  after_sound c cs b ws (Ok (Some d)) e h = go (leb most_waiting (suc (length ws)))
    where
      go : (x : Bool) → Sound ns tol k (after_room (c ∷ cs) b ws (cond x (Err StackFull) (Ok (Some d))))
      go true = record { held = h.held; settled = h.settled }
      go false = record { held = h.held; settled = h.settled }
  after_sound c cs b ws (Ok None) e h = go (leb slots (suc (length cs)))
    where
      go : (x : Bool) → Sound ns tol k (after_room (c ∷ cs) b ws (cond x (Err StoreFull) (Ok None)))
      go true = record { held = h.held; settled = h.settled }
      go false = record { held = omega (arith, h.held, length-append (c ∷ cs) (b ∷ [])); settled = settled-accepted ns tol (k - 1) c cs b (omega (arith, h.held)) h.settled e }

  pub move_sound : (cs : List Inscribed) (b : Inscribed) (ws : List Inscribed) (t : State) → Sound ns tol k (refining cs (b ∷ ws))
      → (refine_move ns tol slots cs b ws ≡ goes t → Sound ns tol k t) × (refine_move ns tol slots cs b ws ≡ pays t → Sound ns tol k t)
  move_sound cs b ws t h = (
    λ p. let m = move_goes ns tol slots b ws cs t p in rw m.2 (one (rw m.0 at h.held)),
    λ p. let m = move_pays ns tol slots b ws cs t p in tried m.0 m.1 m.2 m.3,
  )
    where
      tried : (c : Inscribed) (ds : List Inscribed) → cs ≡ c ∷ ds → t ≡ after_trial slots cs b ws (trial ns tol (last_of c ds) b) → Sound ns tol k t
      tried c ds e f = rw (f, e) (after_sound c ds b ws _ refl (rw e at h))

      one : k ≤ 0 → Sound ns tol k (refining (b ∷ []) ws)
      one z = let e : k - 1 ≡ 0 = omega arith in record { held = omega arith; settled = rw e tt }

  pub refine_sound_goes : (s t : State) → refine_step ns tol slots s ≡ goes t → Sound ns tol k s → Sound ns tol k t
  unfolding refine_step
  refine_sound_goes (refining cs []) t p h = no_goes p
  refine_sound_goes (refining cs (b ∷ ws)) t p h = (move_sound cs b ws t h).0 p
  refine_sound_goes (advancing cs j) t p h = no_goes p
  refine_sound_goes (stopped cs n) t p h = no_goes p

  pub refine_sound_pays : (s t : State) → refine_step ns tol slots s ≡ pays t → Sound ns tol k s → Sound ns tol k t
  unfolding refine_step
  refine_sound_pays (refining cs []) t p h = no_pays p
  refine_sound_pays (refining cs (b ∷ ws)) t p h = (move_sound cs b ws t h).1 p
  refine_sound_pays (advancing cs j) t p h = no_pays p
  refine_sound_pays (stopped cs n) t p h = no_pays p

-- ---- the offered circle waits below the others, or is last

abbrev Ends : Inscribed → List Inscribed → Type 0
Ends o cs = (before : List Inscribed) × (cs ≡ before ++ (o ∷ []))

abbrev pub Offered : ℕ → Inscribed → State → Type 0
Offered k o (refining cs ws) = Ends o ws ⊎ ((ws ≡ []) × (before : List Inscribed) × (cs ≡ before ++ (o ∷ [])) × (k ≤ length before))
Offered k o (advancing cs j) = ⊥
Offered k o (stopped cs n) = Unit {0}

nothing_ends : {A : Type 0} (b o : Inscribed) (ws before : List Inscribed) → b ∷ ws ≡ [] → A
nothing_ends b o ws before e = let z : ◌≡◌ {A = ℕ} 0 1 = cc in absurd (omega arith)

-- the newest taken away, the offered one is below, or it was the newest
below : (o b : Inscribed) (ws : List Inscribed) → Ends o (b ∷ ws) → Ends o ws ⊎ ((ws ≡ []) × (b ≡ o))
below o b ws e = go e.0 e.1
  where
    go : (before : List Inscribed) → b ∷ ws ≡ before ++ (o ∷ []) → Ends o ws ⊎ ((ws ≡ []) × (b ≡ o))
    go [] p = inr (cc, cc)
    go (d ∷ before) p = inl (before, cc)

module _ (ns : List Float) (tol : Float) (k slots : ℕ) (o : Inscribed) where
  accepted_offered : (cs : List Inscribed) (b : Inscribed) (ws : List Inscribed) → k ≤ length cs → Offered k o (refining cs (b ∷ ws)) → Offered k o (refining (cs ++ (b ∷ [])) ws)
  accepted_offered cs b ws h (inr e) = nothing_ends b o ws [] e.0
  accepted_offered cs b ws h (inl e) = ⊎_elim (λ q. inl q) (λ q. inr (q.0, cs, rw q.1, h)) (below o b ws e)

  after_offered : (c : Inscribed) (cs : List Inscribed) (b : Inscribed) (ws : List Inscribed) (r : Answer (Option Inscribed)) → k ≤ suc (length cs) → Offered k o (refining (c ∷ cs) (b ∷ ws))
      → Offered k o (after_trial slots (c ∷ cs) b ws r)
  unfolding after_trial with_room
  after_offered c cs b ws (Err n) h e = tt
  after_offered c cs b ws (Ok (Some d)) h e = go (leb most_waiting (suc (length ws))) e
    where
      go : (x : Bool) → Offered k o (refining (c ∷ cs) (b ∷ ws)) → Offered k o (after_room (c ∷ cs) b ws (cond x (Err StackFull) (Ok (Some d))))
      go true q = tt
      go false (inl q) = inl (d ∷ q.0, ap (λ (x : List Inscribed). d ∷ x) q.1)
      go false (inr q) = nothing_ends b o ws [] q.0
  after_offered c cs b ws (Ok None) h e = go (leb slots (suc (length cs)))
    where
      go : (x : Bool) → Offered k o (after_room (c ∷ cs) b ws (cond x (Err StoreFull) (Ok None)))
      go true = tt
      go false = accepted_offered (c ∷ cs) b ws h e

  -- both together
  abbrev pub Kept : State → Type 0
  Kept s = (k ≤ length (circles_in s)) × Offered k o s

  pub refine_offered_goes : (s t : State) → refine_step ns tol slots s ≡ goes t → Kept s → Kept t
  unfolding refine_step
  refine_offered_goes (refining cs []) t p h = no_goes p
  refine_offered_goes (refining cs (b ∷ ws)) t p h =
      let m = move_goes ns tol slots b ws cs t p in
      rw m.2 (omega (arith, rw m.0 at h.0), accepted_offered [] b ws (rw m.0 at h.0) (rw m.0 at h.1))
  refine_offered_goes (advancing cs j) t p h = no_goes p
  refine_offered_goes (stopped cs n) t p h = no_goes p

  pub refine_offered_pays : (s t : State) → refine_step ns tol slots s ≡ pays t → Kept s → Kept t
  unfolding refine_step
  refine_offered_pays (refining cs []) t p h = no_pays p
  refine_offered_pays (refining cs (b ∷ ws)) t p h =
      let m = move_pays ns tol slots b ws cs t p in
      tried m.0 m.1 m.2 m.3
    where
      tried : (c : Inscribed) (ds : List Inscribed) → cs ≡ c ∷ ds → t ≡ after_trial slots cs b ws (trial ns tol (last_of c ds) b) → Kept t
      tried c ds e f =
          let q = after_part slots cs b ws (trial ns tol (last_of c ds) b) in
          rw f (omega (arith, ap length q.1, length-append cs q.0, h.0), rw e (after_offered c ds b ws (trial ns tol (last_of c ds) b) (rw e at h.0) (rw e at h.1)))
  refine_offered_pays (advancing cs j) t p h = no_pays p
  refine_offered_pays (stopped cs n) t p h = no_pays p

-- ---- no more circles than slots

module _ (ns : List Float) (tol : Float) (slots : ℕ) where
  abbrev pub Fits : State → Type 0
  Fits s = length (circles_in s) ≤ slots

  after_fits : (cs : List Inscribed) (b : Inscribed) (ws : List Inscribed) (r : Answer (Option Inscribed)) → length cs ≤ slots → Fits (after_trial slots cs b ws r)
  unfolding after_trial with_room
  after_fits cs b ws (Err n) h = h
  after_fits cs b ws (Ok (Some d)) h = go (leb most_waiting (suc (length ws)))
    where
      go : (x : Bool) → Fits (after_room cs b ws (cond x (Err StackFull) (Ok (Some d))))
      go true = h
      go false = h
  after_fits cs b ws (Ok None) h = go (leb slots (length cs)) (leb-false slots (length cs))
    where
      go : (x : Bool) → (x ≡ false → length cs < slots) → Fits (after_room cs b ws (cond x (Err StoreFull) (Ok None)))
      go true k = h
      go false k = omega (arith, k refl, length-append cs (b ∷ []))

  pub refine-fits-goes : (s t : State) → refine_step ns tol slots s ≡ goes t → Fits s → Fits t
  unfolding refine_step
  refine-fits-goes (refining cs []) t p h = no_goes p
  refine-fits-goes (refining cs (b ∷ ws)) t p h = let m = move_goes ns tol slots b ws cs t p in rw m.2 m.1
  refine-fits-goes (advancing cs k) t p h = no_goes p
  refine-fits-goes (stopped cs n) t p h = no_goes p

  pub refine-fits-pays : (s t : State) → refine_step ns tol slots s ≡ pays t → Fits s → Fits t
  unfolding refine_step
  refine-fits-pays (refining cs []) t p h = no_pays p
  refine-fits-pays (refining cs (b ∷ ws)) t p h = let m = move_pays ns tol slots b ws cs t p in rw m.3 (after_fits cs b ws (trial ns tol (last_of m.0 m.1) b) h)
  refine-fits-pays (advancing cs k) t p h = no_pays p
  refine-fits-pays (stopped cs n) t p h = no_pays p

  pub refine-fits : (full : ℕ → Bool) (cs ws : List Inscribed) (u : ℕ) → length cs ≤ slots → length (circles_in (refine_run ns tol slots full cs ws u).state) ≤ slots
  unfolding whole
  refine-fits full cs ws u h = run_holds (refine_step ns tol slots) full Fits refine-fits-goes refine-fits-pays (suc (measure slots (refining cs ws))) (refining cs ws) u h
