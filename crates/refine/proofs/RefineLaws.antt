-- The loop of `refine_waiting`: each way through its body keeps that what is left of the run gives the whole. Assumes nothing.
use mathlib.Core.Path.{◌≡◌, refl, sym, ap, ◌∙◌}
use mathlib.Core.Bool.{Bool, true, false, cond}
use mathlib.Core.List.{List, [], ◌∷◌, ◌++◌, reverse, reverse-append}
use Rattle.std.specs.Prelude.{Option, Some, None, Ok, Err}
use Prim.Native.Nat.{ℕ, suc, ◌+◌, ◌-◌, ◌*◌, ◌≤◌, ◌<◌}
use native.Mathlib.Numerals.{add-one}
use native.Mathlib.Omega.{arith}
use borrow.Author.Tests.{le-leb, lt-leb, leb-false}
use lib.Dec.{leb}
use lib.ListN.{length, get_or, length-append}
use lib.Ieee.{Float, nan}
use Rattle.errors.specs.Answer.{Answer}
use Rattle.errors.specs.Lists.{last_of}
use Rattle.runs.specs.Run.{Move, pays, Ending, ended, spent, Final, final_of, under_limit, whole}
use Rattle.runs.proofs.RunLaws.{whole_ends, whole_pays, whole_spent}
use Rattle.inscribed.specs.Store.{width, circle_at, circles_of, stored}
use Rattle.inscribed.specs.Code.{with_circle}
use Rattle.errors.specs.declared.Refusal.{Refusal}
use Rattle.inscribed.specs.declared.Inscribed.{Inscribed}
use Rattle.inscribed.proofs.StoreLaws.{stored_push, stored-again, circle_of-stored, length-circles}
use Rattle.circles.specs.Trial.{trial}
use Rattle.refine.specs.Machine.{most_waiting, State, refining, stopped, circles_in, End, finished, with_room, after_room, after_trial, refine_move, measure, refine_step, refine_run}
use Rattle.refine.specs.Code.{waiting_in}
use Rattle.refine.specs.Report.{RunReport, reported}
use Rattle.refine.proofs.MoveLaws.{refine_falls}
use Rattle.errors.specs.declared.Refusal.TheVariants.{StackFull, StoreFull}

abbrev no_circle : Inscribed
no_circle = record { cx = nan; cy = nan; r = nan; p0x = nan; p0y = nan; p1x = nan; p1y = nan; l0 = nan; l1 = nan }

last_at : (c : Inscribed) (cs : List Inscribed) → get_or (c ∷ cs) (length cs) no_circle ≡ last_of c cs
unfolding last_of
last_at c [] = refl
last_at c (d ∷ cs) = last_at d cs

pub last_stored : (store old : List Float) (n : ℕ) (cs : List Inscribed) (c : Inscribed) (ds : List Inscribed) → store ≡ stored cs old → cs ≡ c ∷ ds → length cs ≡ n → circle_at store (n - 1) ≡ last_of c ds
last_stored store old n cs c ds h e l =
    let m : n - 1 ≡ length ds = omega (arith, l, ap length e) in
    rw (h, m) (circle_of-stored cs old (length ds) no_circle (omega (arith, ap length e)) ∙ ap (λ (x : List Inscribed). get_or x (length ds) no_circle) e ∙ last_at c ds)

-- the waiting circles stand in their vector with the newest last
pub newest : (ws rest : List Inscribed) (b : Inscribed) → ws ≡ rest ++ (b ∷ []) → reverse ws ≡ b ∷ reverse rest
newest ws rest b e = ap reverse e ∙ reverse-append rest (b ∷ [])

-- ---- a state of the loop: the store holds a list, and what is left of the run from there is the whole

pub record Left (ns : List Float) (tol : Float) (slots limit : ℕ) (old : List Float) (target : Final State End) (store : List Float) (n : ℕ) (ws : List Inscribed) (u : ℕ) : Type 0 where
  pub cs : List Inscribed
  pub long : length cs ≡ n
  pub holds : store ≡ stored cs old
  pub left : refine_run ns tol slots (under_limit limit) cs ws u ≡ target

abbrev pub report : Ending End → ℕ → ℕ → List Float → RunReport
report e n u store = record { ending = e; count = n; units = u; store = store }

module _ (ns : List Float) (tol : Float) (slots limit : ℕ) (old : List Float) (target : Final State End) where
  -- an ending with the list as it is
  pub reported_as : (store : List Float) (n : ℕ) (cs : List Inscribed) (e : Ending End) (s : State) (u : ℕ) → length cs ≡ n → store ≡ stored cs old → circles_in s ≡ cs → final_of e s u ≡ target
      → report e n u store ≡ reported old target
  unfolding reported
  reported_as store n cs e s u l h c p = rw (← p, c, l, h)

  abbrev step : State → Move State End
  step = refine_step ns tol slots

  pub loop_finished : (store : List Float) (n u : ℕ) → Left ns tol slots limit old target store n [] u → report (ended finished) n u store ≡ reported old target
  unfolding refine_step
  loop_finished store n u l =
      reported_as store n l.cs (ended finished) (refining l.cs []) u l.long l.holds refl
      (sym (whole_ends step (measure slots) (refine_falls ns tol slots) (under_limit limit) (refining l.cs []) u finished refl) ∙ l.left)

  module _ (store : List Float) (b : Inscribed) (ws : List Inscribed) (u : ℕ) where
    -- ---- a list with a last circle

    module _ (n : ℕ) (l : Left ns tol slots limit old target store n (b ∷ ws) u) (some-n : n ≡ 0 → ⊥) where
      split_list : (cs : List Inscribed) → length cs ≡ n → (c : Inscribed) × (ds : List Inscribed) × (cs ≡ c ∷ ds)
      split_list [] e = absurd (some-n (sym e))
      split_list (c ∷ ds) e = (c, ds, refl)

      abbrev first : Inscribed
      first = (split_list l.cs l.long).0

      abbrev others : List Inscribed
      others = (split_list l.cs l.long).1

      whole_list : l.cs ≡ first ∷ others
      whole_list = (split_list l.cs l.long).2

      loop_last : circle_at store (n - 1) ≡ last_of first others
      loop_last = last_stored store old n l.cs first others l.holds whole_list l.long

      abbrev result_of : Answer (Option Inscribed)
      result_of = trial ns tol (last_of first others) b

      -- the trial that the code makes
      abbrev pub asked : Answer (Option Inscribed)
      asked = trial ns tol (circle_at store (n - 1)) b

      paying : step (refining l.cs (b ∷ ws)) ≡ pays (after_trial slots l.cs b ws result_of)
      paying = go l.cs first others whole_list
        where
          go : (cs : List Inscribed) (c : Inscribed) (ds : List Inscribed) → cs ≡ c ∷ ds → step (refining cs (b ∷ ws)) ≡ pays (after_trial slots cs b ws (trial ns tol (last_of c ds) b))
          go cs c ds e = rw e (unfold refine_step refine_move in refl)

      pub loop_spent : limit ≤ u → report spent n u store ≡ reported old target
      loop_spent h =
          reported_as store n l.cs spent (refining l.cs (b ∷ ws)) u l.long l.holds refl
          (sym (whole_spent step (measure slots) (refine_falls ns tol slots) (under_limit limit) (refining l.cs (b ∷ ws)) u (after_trial slots l.cs b ws result_of) paying (le-leb limit u h)) ∙ l.left)

      -- and those that wait are those of the state
      pub loop_waits : limit ≤ u → b ∷ ws ≡ waiting_in target.state
      loop_waits h =
          ap (λ (o : Final State End). waiting_in o.state)
          (sym (whole_spent step (measure slots) (refine_falls ns tol slots) (under_limit limit) (refining l.cs (b ∷ ws)) u (after_trial slots l.cs b ws result_of) paying (le-leb limit u h)) ∙ l.left)

      module _ (more : u < limit) (w : ℕ) (waits : suc (length ws) ≡ w) where
        paid : whole step (measure slots) (under_limit limit) (after_trial slots l.cs b ws asked) (suc u) ≡ target
        paid =
            rw (ap (λ (x : Inscribed). trial ns tol x b) loop_last)
            (sym (whole_pays step (measure slots) (refine_falls ns tol slots) (under_limit limit) (refining l.cs (b ∷ ws)) u (after_trial slots l.cs b ws result_of) paying (lt-leb limit u more)) ∙ l.left)

        after : (r : Answer (Option Inscribed)) → with_room slots n w asked ≡ r → whole step (measure slots) (under_limit limit) (after_room l.cs b ws r) (suc u) ≡ target
        unfolding after_trial
        after r e = rw e at (rw (l.long, waits) at paid)

        pub loop_refused : (k : Refusal) → with_room slots n w asked ≡ Err k → report (ended (Err k)) n (u + 1) store ≡ reported old target
        unfolding refine_step
        loop_refused k e =
            rw (add-one u)
            (reported_as store n l.cs (ended (Err k)) (stopped l.cs k) (suc u) l.long l.holds refl
            (sym (whole_ends step (measure slots) (refine_falls ns tol slots) (under_limit limit) (stopped l.cs k) (suc u) (Err k) refl) ∙ after (Err k) e))

        pub loop_added : (d : Inscribed) → with_room slots n w asked ≡ Ok (Some d) → Left ns tol slots limit old target store n (d ∷ (b ∷ ws)) (u + 1)
        loop_added d e = record { cs = l.cs; long = l.long; holds = l.holds; left = rw (add-one u) (after (Ok (Some d)) e) }

        pub loop_accepted : with_room slots n w asked ≡ Ok None → Left ns tol slots limit old target (with_circle store n b) (n + 1) ws (u + 1)
        loop_accepted e = record {
          cs = l.cs ++ (b ∷ []);
          long = length-append l.cs (b ∷ []) ∙ ap (λ (x : ℕ). x + 1) l.long;
          holds = rw (l.holds, ← l.long) (stored_push l.cs old b);
          left = rw (add-one u) (after (Ok None) e);
        }

-- the loop begins with the old circles
pub loop_start : (ns : List Float) (tol : Float) (slots limit : ℕ) (old : List Float) (n : ℕ) (ws : List Inscribed) (u : ℕ) → n ≤ slots → slots * width ≤ length old
    → Left ns tol slots limit old (refine_run ns tol slots (under_limit limit) (circles_of old n) ws u) old n ws u
loop_start ns tol slots limit old n ws u h k = record { cs = circles_of old n; long = length-circles old 0 n; holds = sym (stored-again old n (omega arith)); left = refl }

-- ---- what room there is where a trial ends neither in 16 nor in 15

unfoldable tag_of : Answer (Option Inscribed) → ℕ
tag_of (Err k) = 0
tag_of (Ok None) = 1
tag_of (Ok (Some d)) = 2

pub room_to_wait : (slots n w : ℕ) (r : Answer (Option Inscribed)) (d : Inscribed) → with_room slots n w r ≡ Ok (Some d) → w < 64
unfolding tag_of with_room
room_to_wait slots n w (Err k) d e = let z : ◌≡◌ {A = ℕ} 0 2 = ap tag_of e in absurd (omega arith)
room_to_wait slots n w (Ok (Some x)) d e = go (leb most_waiting w) (leb-false most_waiting w) e
  where
    go : (y : Bool) → (y ≡ false → w < most_waiting) → ◌≡◌ {A = Answer (Option Inscribed)} (cond y (Err StackFull) (Ok (Some x))) (Ok (Some d)) → w < 64
    go true h p = let z : ◌≡◌ {A = ℕ} 0 2 = ap tag_of p in absurd (omega arith)
    go false h p = h refl
room_to_wait slots n w (Ok None) d e = go (leb slots n) e
  where
    go : (y : Bool) → ◌≡◌ {A = Answer (Option Inscribed)} (cond y (Err StoreFull) (Ok None)) (Ok (Some d)) → w < 64
    go true p = let z : ◌≡◌ {A = ℕ} 0 2 = ap tag_of p in absurd (omega arith)
    go false p = let z : ◌≡◌ {A = ℕ} 1 2 = ap tag_of p in absurd (omega arith)

pub room_to_take : (slots n w : ℕ) (r : Answer (Option Inscribed)) → with_room slots n w r ≡ Ok None → n < slots
unfolding tag_of with_room
room_to_take slots n w (Err k) e = let z : ◌≡◌ {A = ℕ} 0 1 = ap tag_of e in absurd (omega arith)
room_to_take slots n w (Ok (Some x)) e = go (leb most_waiting w) e
  where
    go : (y : Bool) → ◌≡◌ {A = Answer (Option Inscribed)} (cond y (Err StackFull) (Ok (Some x))) (Ok None) → n < slots
    go true p = let z : ◌≡◌ {A = ℕ} 0 1 = ap tag_of p in absurd (omega arith)
    go false p = let z : ◌≡◌ {A = ℕ} 2 1 = ap tag_of p in absurd (omega arith)
room_to_take slots n w (Ok None) e = go (leb slots n) (leb-false slots n) e
  where
    go : (y : Bool) → (y ≡ false → n < slots) → ◌≡◌ {A = Answer (Option Inscribed)} (cond y (Err StoreFull) (Ok None)) (Ok None) → n < slots
    go true h p = let z : ◌≡◌ {A = ℕ} 0 1 = ap tag_of p in absurd (omega arith)
    go false h p = h refl

-- ---- endings

pub ended-unspent : (e : End) → ◌≡◌ {A = Ending End} (ended e) spent → ⊥
ended-unspent e p = let z : ◌≡◌ {A = ℕ} 0 1 = cc in absurd (omega arith)

pub spent-not_finished : ◌≡◌ {A = Ending End} spent (ended finished) → ⊥
spent-not_finished p = let z : ◌≡◌ {A = ℕ} 0 1 = cc in absurd (omega arith)

pub refused-not_finished : (r : Refusal) → ◌≡◌ {A = Ending End} (ended (Err r)) (ended finished) → ⊥
refused-not_finished r p = let z : ◌≡◌ {A = ℕ} 0 1 = cc in absurd (omega arith)
