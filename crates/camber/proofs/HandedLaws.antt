-- What a march and a going on hand out, and what a state that passed its test is gone on from. Assumes nothing.
use mathlib.Core.Path.{◌≡◌, refl, sym, ap, ◌∙◌}
use mathlib.Core.Bool.{Bool, true, false, ◌||◌, cond}
use mathlib.Core.List.{List, [], ◌∷◌, reverse, reverse-reverse}
use Prim.Native.Nat.{ℕ, suc, ◌≤◌, ◌<◌}
use native.Mathlib.Omega.{arith}
use borrow.Author.Tests.{ltb-false, eqb-false}
use lib.Dec.{ltb, eqb}
use lib.ListN.{length, length-reverse}
use lib.Ieee.{Float}
use Rattle.std.specs.Prelude.{Option, Some, Ok}
use Rattle.curve2.specs.Entry.{section_tests, section_entry}
use Rattle.curve2.proofs.Laws.{or_left, or_right, none_bad, entry_room}
use Rattle.runs.specs.Run.{Ending, ended, spent, unfinished, Final, under_limit, whole}
use Rattle.runs.proofs.PauseLaws.{spent_pays}
use Rattle.inscribed.specs.Store.{slots_within, circles_of, bad_store_within}
use Rattle.inscribed.specs.declared.Inscribed.{Inscribed}
use Rattle.inscribed.proofs.StoreLaws.{length-circles}
use Rattle.refine.specs.Machine.{most_waiting, State, refining, advancing, End, measure}
use Rattle.refine.specs.Code.{waiting_in, due_in}
use Rattle.refine.specs.Report.{RunReport, ran, reported, listed_end, listed_run}
use Rattle.refine.specs.declared.Run.{Run}
use Rattle.camber.specs.March.{march_step, march_run}
use Rattle.camber.specs.Paused.{state_with, handed_out, paused_by, waiting_of, state_from, bad_state}
use Rattle.camber.specs.Code.{state_at, state_at_end, fraction_due, Idle}
use Rattle.camber.specs.Going.{Going, beside_section, going_entry, going_after, going_of, GoingTold, told_of}
use Rattle.camber.specs.declared.state.MarchState.{MarchState}
use Rattle.camber.proofs.WantsLaws.{wanting}

-- ---- out

module _ (ns : List Float) (tol : Float) (slots limit : ℕ) (s : State) (u : ℕ) where
  abbrev o : Final State End
  o = march_run ns tol slots (under_limit limit) s u

  spent_told : (ws : List Inscribed) (due : ℕ) → o.ending ≡ spent → reverse ws ≡ waiting_in o.state → due ≡ due_in o.state → state_with (ltb 0 (length ws)) due ws ≡ handed_out o.state
  unfolding whole
  spent_told ws due e w d =
      let p = spent_pays (march_step ns tol slots) (under_limit limit) (suc (measure slots s)) s u e in
      let t = wanting ns tol slots o.state p.0 p.1 in
      let back : ws ≡ reverse (waiting_in o.state) = sym (reverse-reverse ws) ∙ ap reverse w in
      let long : length ws ≡ length (waiting_in o.state) = ap length back ∙ length-reverse (waiting_in o.state) in
      ap (λ (n : ℕ). state_with (ltb 0 n) due ws) long ∙ ap (λ (k : ℕ). state_with (ltb 0 (length (waiting_in o.state))) k ws) d ∙ ap (λ (x : List Inscribed). state_with (ltb 0 (length (waiting_in o.state))) (due_in o.state) x) back ∙ sym t.told

  pub told_handed : (r : Run (Unit {0})) (after old : List Float) (ws : List Inscribed) (due : ℕ) → listed_run r after ≡ reported old o → (listed_end r.end ≡ spent → (reverse ws ≡ waiting_in o.state) × (due ≡ due_in o.state))
      → ◌≡◌ {A = GoingTold} (record { called = ran (listed_run r after); state = state_at_end (listed_end r.end) due ws }) (told_of old o)
  unfolding state_at_end paused_by reported
  told_handed r after old ws due run paused =
      let same : listed_end r.end ≡ o.ending = ap (λ (x : RunReport). x.ending) run in
      told (ap (λ (x : RunReport). ran x) run) (state_is (listed_end r.end) same refl ∙ ap (λ (e : Ending End). paused_by e o.state) same)
    where
      told : {x y : Option MarchState} → ran (listed_run r after) ≡ ran (reported old o) → x ≡ y → ◌≡◌ {A = GoingTold} (record { called = ran (listed_run r after); state = x }) (record { called = ran (reported old o); state = y })
      told p q = rw (p, q) refl

      state_is : (e : Ending End) → e ≡ o.ending → listed_end r.end ≡ e → state_at_end e due ws ≡ paused_by e o.state
      state_is (ended x) p q = refl
      state_is unfinished p q = refl
      state_is spent p q = let w = paused q in ap (λ (x : MarchState). Some x) (spent_told ws due (sym p) w.0 w.1)

-- what a run tells of the store that it leaves, and of its state, each of which has two names
pub told_alike : (r : Run (Unit {0})) (after again : List Float) (x y : Option MarchState) (t : GoingTold) → after ≡ again → x ≡ y
    → ◌≡◌ {A = GoingTold} (record { called = ran (listed_run r again); state = y }) t → ◌≡◌ {A = GoingTold} (record { called = ran (listed_run r after); state = x }) t
told_alike r after again x y t a b e = rw (a, b) e

-- ---- in

-- what passed its test of 27: how many wait, that one is in use, and whether they wait or a fraction is due
module _ (p : MarchState) (n : ℕ) (e : bad_state p n ≡ false) where
  abbrev rest : Bool
  rest = cond p.is_refining (eqb p.count 0) (ltb 0 p.count || ltb 3 p.fraction)

  pub few_wait : p.count ≤ most_waiting
  unfolding bad_state
  few_wait = ltb-false most_waiting p.count (or_left (ltb most_waiting p.count) (bad_store_within most_waiting p.waiting p.count || (eqb n 0 || rest)) e)

  pub slots_pass : bad_store_within most_waiting p.waiting p.count ≡ false
  unfolding bad_state
  slots_pass = or_left (bad_store_within most_waiting p.waiting p.count) (eqb n 0 || rest) (or_right (ltb most_waiting p.count) (bad_store_within most_waiting p.waiting p.count || (eqb n 0 || rest)) e)

  behind : (eqb n 0 || rest) ≡ false
  unfolding bad_state
  behind = or_right (bad_store_within most_waiting p.waiting p.count) (eqb n 0 || rest) (or_right (ltb most_waiting p.count) (bad_store_within most_waiting p.waiting p.count || (eqb n 0 || rest)) e)

  pub one_in_use : 0 < n
  one_in_use = let z = eqb-false n 0 (or_left (eqb n 0) rest behind) in omega (arith, z)

  abbrev Fine : Bool → Type 0
  Fine b = (cond b 0 p.fraction < 4) × (Idle (waiting_of p) (cond b 0 p.fraction) × ((cs : List Inscribed) → state_at cs (waiting_of p) (cond b 0 p.fraction) ≡ cond b (refining cs (waiting_of p)) (advancing cs p.fraction)))

  is_fine : Fine p.is_refining
  is_fine = go p.is_refining (or_right (eqb n 0) rest behind)
    where
      long : length (waiting_of p) ≡ p.count
      long = length-reverse (circles_of p.waiting p.count) ∙ length-circles p.waiting 0 p.count

      some : (ws : List Inscribed) → length ws ≡ p.count → (p.count ≡ 0 → ⊥) → Idle ws 0 × ((cs : List Inscribed) → state_at cs ws 0 ≡ refining cs ws)
      some [] l h = absurd (h (sym l))
      some (b ∷ ws) l h = (refl, λ cs. refl)

      none : (ws : List Inscribed) → length ws ≡ p.count → p.count ≡ 0 → Idle ws p.fraction × ((cs : List Inscribed) → state_at cs ws p.fraction ≡ advancing cs p.fraction)
      none [] l h = (tt, λ cs. refl)
      none (b ∷ ws) l h = let z : ◌≡◌ {A = ℕ} (suc (length ws)) 0 = l ∙ h in absurd (omega (arith, z))

      go : (b : Bool) → cond b (eqb p.count 0) (ltb 0 p.count || ltb 3 p.fraction) ≡ false → Fine b
      go true q = let w = some (waiting_of p) long (eqb-false p.count 0 q) in (omega arith, (w.0, w.1))
      go false q =
          let z : p.count ≡ 0 = omega (arith, ltb-false 0 p.count (or_left (ltb 0 p.count) (ltb 3 p.fraction) q)) in
          let w = none (waiting_of p) long z in
          (omega (arith, ltb-false 3 p.fraction (or_right (ltb 0 p.count) (ltb 3 p.fraction) q)), (w.0, w.1))

  pub due_few : fraction_due p < 4
  due_few = is_fine.0

  pub idle_now : Idle (waiting_of p) (fraction_due p)
  idle_now = is_fine.1.0

  pub state_now : (cs : List Inscribed) → state_at cs (waiting_of p) (fraction_due p) ≡ state_from cs p
  state_now = is_fine.1.1

module _ (g : Going) (e : going_entry g ≡ Ok tt) where
  pub passed_state : bad_state g.state g.count ≡ false
  unfolding going_entry section_entry
  passed_state =
      (none_bad (section_tests g.section g.section_tol (beside_section g)) e).1.1.1.1.1.0

  pub passed_room : g.count ≤ slots_within g.slot_limit g.store
  unfolding going_entry
  passed_room = ltb-false (slots_within g.slot_limit g.store) g.count (entry_room _ _ _ e)

  -- the run of the code is the definition's
  pub gone_on : (limit : ℕ) (t : GoingTold) → t ≡ told_of g.store (march_run g.section g.tol (slots_within g.slot_limit g.store) (under_limit limit) (state_at (circles_of g.store g.count) (waiting_of g.state) (fraction_due g.state)) 0) → t ≡ going_of g limit
  unfolding going_after
  gone_on limit t is =
      is
      ∙ ap (λ (s : State). told_of g.store (march_run g.section g.tol (slots_within g.slot_limit g.store) (under_limit limit) s 0)) (state_now g.state g.count passed_state (circles_of g.store g.count))
      ∙ rw e refl
