-- The law of a pause: a run that was spent, and goes on with a second limit, is the run whose limit is the sum. Of marches, and of goings on. Assumes nothing.
use mathlib.Core.Path.{◌≡◌, refl, ap, subst, ◌∙◌}
use mathlib.Core.Bool.{Bool, true, false, cond}
use mathlib.Core.List.{List, [], ◌∷◌}
use Rattle.std.specs.Prelude.{Some, None, Ok, Err}
use Prim.Native.Nat.{ℕ, suc, ◌+◌, ◌*◌, ◌≤◌, ◌<◌, min}
use native.Mathlib.Omega.{arith}
use borrow.Author.Tests.{le-ltb}
use lib.ListN.{length, length-append, length-reverse}
use lib.Ieee.{Float}
use Rattle.errors.specs.Answer.{Answer, ◌>>=◌}
use Rattle.errors.proofs.Laws.{not_14}
use Rattle.curve2.specs.Entry.{IsSection, section_tests, section_entry, bad_numbers}
use Rattle.curve2.proofs.Laws.{or_right, none_bad, entry_passed}
use Rattle.runs.specs.Run.{Ending, ended, spent, unfinished, Final, under_limit, whole}
use Rattle.runs.proofs.LimitLaws.{part_grows, finishes}
use Rattle.runs.proofs.PauseLaws.{spent_pays, paused, paused_at_once}
use Rattle.inscribed.specs.Store.{width, slots_within, circles_of, stored, any_bad, bad_store_within}
use Rattle.inscribed.specs.declared.Inscribed.{Inscribed}
use Rattle.inscribed.proofs.StoreLaws.{length-circles, stored_length, circles_of-stored, stored_longer}
use Rattle.refine.specs.Machine.{most_waiting, State, refining, advancing, circles_in, End, measure}
use Rattle.refine.specs.Report.{Called, refused_on_entry, ran, reported, called_number, store_of, count_of}
use Rattle.refine.proofs.AgainLaws.{Tested, run_tested}
use Rattle.refine.proofs.GoodLaws.{Good}
use Rattle.refine.proofs.LawOfRuns.{spent-number}
use Rattle.refine.proofs.MachineLaws.{Part, Fits}
use Rattle.camber.specs.March.{Marched, march_entry, start_of, after_start, march_after, state_after, march_state, march_step, march_run}
use Rattle.camber.specs.Paused.{handed_out, paused_by, waiting_of, state_from}
use Rattle.camber.specs.Code.{started_told}
use Rattle.camber.specs.Going.{Going, beside_section, going_entry, going_run, GoingTold, told_of, going_after, going_of}
use Rattle.camber.specs.PauseLaw.{told_by_march, left_by_march, left_by_going, told_after, PauseLaw, StateLaw}
use Rattle.camber.specs.declared.state.MarchState.{MarchState}
use Rattle.camber.proofs.MarchMachine.{march_falls, march_grows, march-fits}
use Rattle.camber.proofs.GoodMarches.{march_good}
use Rattle.camber.proofs.MarchAgain.{march_section, march_tested, start_good}
use Rattle.camber.proofs.WantsLaws.{Wants, wanting, bad_reversed}
use Rattle.camber.proofs.GoingLimit.{circles_in_use}
use Rattle.camber.proofs.HandedLaws.{few_wait, slots_pass, due_few, passed_state, passed_room}

-- a state is handed out by a spent run alone
some_state : (e : Ending End) (t : State) (p : MarchState) → paused_by e t ≡ Some p → (e ≡ spent) × (handed_out t ≡ p)
unfolding paused_by
some_state spent t p q = (refl, cc)
some_state (ended x) t p q = let z : ◌≡◌ {A = ℕ} 0 1 = cc in absurd (omega arith)
some_state unfinished t p q = let z : ◌≡◌ {A = ℕ} 0 1 = cc in absurd (omega arith)

other_state : (e : Ending End) (t : State) → (e ≡ spent → ⊥) → paused_by e t ≡ None
unfolding paused_by
other_state spent t f = absurd (f refl)
other_state (ended x) t f = refl
other_state unfinished t f = refl

-- ---- the march from a state on that can be handed in, over a store as it was

module _ (ns : List Float) (section_tol tol : Float) (ok : Tested ns section_tol tol) (sec : IsSection ns section_tol) (old : List Float) (slot_limit : ℕ) (s : State) (good : Good s) (fits : Fits ns tol (slots_within slot_limit old) s) (first : ℕ) where
  abbrev room : ℕ
  room = slots_within slot_limit old

  abbrev run_under : ℕ → Final State End
  run_under limit = march_run ns tol room (under_limit limit) s 0

  abbrev o : Final State End
  o = run_under first

  abbrev cs : List Inscribed
  cs = circles_in o.state

  -- what the first call left, handed in as it is
  abbrev handed_on : Going
  handed_on = record { section = ns; section_tol = section_tol; tol = tol; store = stored cs old; count = length cs; slot_limit = slot_limit; state = handed_out o.state }

  cs_fit : length cs ≤ room
  cs_fit = march-fits ns tol room (under_limit first) s 0 fits

  long : length (stored cs old) ≡ length old
  long = stored_length cs old (omega (arith, cs_fit))

  room_is : slots_within slot_limit (stored cs old) ≡ room
  room_is = rw long refl

  module _ (spent_is : o.ending ≡ spent) where
    wants : Wants o.state
    unfolding whole
    wants = let p = spent_pays (march_step ns tol room) (under_limit first) (suc (measure room s)) s 0 spent_is in wanting ns tol room o.state p.0 p.1

    good_now : Good o.state
    good_now = march_good ns section_tol sec tol room (under_limit first) s 0 good

    -- "waiting circles" and circles in use pass their tests, and so does all that passed before
    enters : going_entry handed_on ≡ Ok tt
    unfolding going_entry section_entry
    enters =
        let few : min (length cs) (slots_within slot_limit (stored cs old)) ≡ length cs = omega (arith, cs_fit, room_is) in
        rw (ok.count, ok.numbers, few, circles_of-stored cs old, good_now.circles, ok.tolerance, ok.general, ok.finer, le-ltb (slots_within slot_limit (stored cs old)) (length cs) (omega (arith, cs_fit, room_is)), wants.whole_state good_now (length cs) refl, ok.spaced) refl

    same_run : (limit : ℕ) → going_run handed_on (under_limit limit) ≡ march_run ns tol room (under_limit limit) o.state 0
    same_run limit = rw (room_is, circles_of-stored cs old, wants.again) refl

    grown : (limit : ℕ) → length cs ≤ length (circles_in (march_run ns tol room (under_limit limit) o.state 0).state)
    unfolding whole
    grown limit = let p = part_grows (march_step ns tol room) Part (march_grows ns tol room) (under_limit limit) (suc (measure room o.state)) o.state 0 in omega (arith, ap length p.1, length-append cs p.0)

    -- ending, count, units in sum, store, and the state where it is spent again
    sum_law : (second : ℕ) → told_of old (run_under (first + second)) ≡ told_after first (going_of handed_on second)
    unfolding going_after reported paused_by
    sum_law second =
        rw (enters, same_run second, stored_longer (circles_in (march_run ns tol room (under_limit second) o.state 0).state) cs old (grown second), paused (march_step ns tol room) (measure room) (march_falls ns tol room) first second s spent_is) refl

    -- limit 0: an equal state, and all as it was
    still_law : going_of handed_on 0 ≡ record { called = ran (record { ending = spent; count = length cs; units = 0; store = stored cs old }); state = Some (handed_out o.state) }
    unfolding going_after reported paused_by
    still_law = rw (enters, same_run 0, paused_at_once (march_step ns tol room) (measure room) (march_falls ns tol room) first s spent_is, stored_longer cs cs old (omega arith)) refl

    pause_of : PauseLaw (λ limit. told_of old (run_under limit)) first (handed_out o.state) handed_on
    pause_of = record { sum = sum_law; still = still_law }

  -- with the state by the name that it has
  pub run_pause : (p : MarchState) → paused_by o.ending o.state ≡ Some p → PauseLaw (λ limit. told_of old (run_under limit)) first p (record handed_on { state = p })
  run_pause p e =
      let k = some_state o.ending o.state p e in
      subst (λ (q : MarchState). PauseLaw (λ limit. told_of old (run_under limit)) first q (record handed_on { state = q })) k.1 (pause_of k.0)

  -- a state comes with 14 alone, and passes the test of 27
  pub run_state : (count : ℕ) → StateLaw count (told_of old o)
  unfolding reported
  run_state count = record {
    handed = λ e. let s = spent-number o.ending e (finishes (march_step ns tol room) (measure room) (march_falls ns tol room) (under_limit first) s 0) in (handed_out o.state, rw s (unfold paused_by in refl));
    kept = λ f. other_state o.ending o.state (λ e. f (rw e refl));
    passes = λ p e. let k = some_state o.ending o.state p e in rw (← k.1) ((wants k.0).whole_state (good_now k.0) (length cs) refl);
  }

-- of a call that is refused before a run begins: no state
none_handed : (count : ℕ) (c : Called (Unit {0})) → (called_number c ≡ 14 → ⊥) → StateLaw count (record { called = c; state = None })
none_handed count c f = record {
  handed = λ e. absurd (f e);
  kept = λ g. refl;
  passes = λ p e. let z : ◌≡◌ {A = ℕ} 0 1 = cc in absurd (omega arith);
}

-- ---- marches

module _ (m : Marched) where
  abbrev told_at : ℕ → Answer (Unit {0}) → GoingTold
  told_at l e = record { called = march_after m (under_limit l) e; state = state_after m (under_limit l) (e >>= λ passed. start_of m) }

  module _ (first : ℕ) (p : MarchState) where
    abbrev left_of : Called (Unit {0}) → Going
    left_of c = record { section = m.section; section_tol = m.section_tol; tol = m.tol; store = store_of c; count = count_of 0 c; slot_limit = m.slot_limit; state = p }

    pub march_pause : march_state m first ≡ Some p → PauseLaw (told_by_march m) first p (left_by_march m first p)
    unfolding march_after after_start state_after reported
    march_pause = go (march_entry m) refl
      where
        begun : march_entry m ≡ Ok tt → (a : Answer Inscribed) → start_of m ≡ a → (started_told m first a).state ≡ Some p → PauseLaw (λ l. started_told m l a) first p (left_of (started_told m first a).called)
        begun e (Err r) q h = let z : ◌≡◌ {A = ℕ} 0 1 = cc in absurd (omega arith)
        begun e (Ok c) q h = run_pause m.section m.section_tol m.tol (march_tested m e) (march_section m e) m.store m.slot_limit (refining [] (c ∷ [])) (start_good m e c q) (omega arith) first p h

        go : (e : Answer (Unit {0})) → march_entry m ≡ e → (told_at first e).state ≡ Some p → PauseLaw (λ l. told_at l e) first p (left_of (told_at first e).called)
        go (Err r) e h = let z : ◌≡◌ {A = ℕ} 0 1 = cc in absurd (omega arith)
        go (Ok passed) e h = begun e (start_of m) refl h

  pub march_states : (limit : ℕ) → StateLaw 0 (told_by_march m limit)
  unfolding march_after after_start state_after reported
  march_states limit = go (march_entry m) refl
    where
      begun : march_entry m ≡ Ok tt → (a : Answer Inscribed) → start_of m ≡ a → StateLaw 0 (started_told m limit a)
      begun e (Err r) q = none_handed 0 (ran (after_start m (under_limit limit) (Err r))) (not_14 r)
      begun e (Ok c) q = run_state m.section m.section_tol m.tol (march_tested m e) (march_section m e) m.store m.slot_limit (refining [] (c ∷ [])) (start_good m e c q) (omega arith) limit 0

      go : (e : Answer (Unit {0})) → march_entry m ≡ e → StateLaw 0 (told_at limit e)
      go (Err r) e = none_handed 0 (refused_on_entry r m.store) (not_14 r)
      go (Ok passed) e = begun e (start_of m) refl

-- ---- goings on, from a state that has its 64 slots

module _ (g : Going) (whole_state : length g.state.waiting ≡ most_waiting * width) where
  module _ (e : going_entry g ≡ Ok tt) where
    also_passed : section_entry g.section g.section_tol (beside_section g) ≡ Ok tt
    unfolding going_entry
    also_passed = e

    going_section : IsSection g.section g.section_tol
    going_section = entry_passed g.section g.section_tol (beside_section g) also_passed

    going_tested : Tested g.section g.section_tol g.tol
    going_tested = run_tested g.section g.section_tol g.tol (beside_section g).number (beside_section g).room (beside_section g).state also_passed

    numbers_pass : bad_store_within g.slot_limit g.store g.count ≡ false
    unfolding section_entry
    numbers_pass = or_right (bad_numbers g.section) (bad_store_within g.slot_limit g.store g.count) (none_bad (section_tests g.section g.section_tol (beside_section g)) also_passed).1.0

    in_use_good : any_bad (circles_of g.store g.count) ≡ false
    in_use_good = let few : min g.count (slots_within g.slot_limit g.store) ≡ g.count = omega (arith, passed_room g e) in rw few at numbers_pass

    waiting_good : any_bad (waiting_of g.state) ≡ false
    waiting_good =
        let few : min g.state.count (slots_within most_waiting g.state.waiting) ≡ g.state.count = omega (arith, few_wait g.state g.count (passed_state g e), whole_state) in
        let h : bad_store_within most_waiting g.state.waiting g.state.count ≡ false = slots_pass g.state g.count (passed_state g e) in
        bad_reversed (circles_of g.state.waiting g.state.count) (rw few at h)

    abbrev start_from : Bool → State
    start_from b = cond b (refining (circles_of g.store g.count) (waiting_of g.state)) (advancing (circles_of g.store g.count) g.state.fraction)

    from_good : Good (state_from (circles_of g.store g.count) g.state)
    unfolding any_bad
    from_good = go g.state.is_refining (due_few g.state g.count (passed_state g e))
      where
        long : length (waiting_of g.state) ≡ g.state.count
        long = length-reverse (circles_of g.state.waiting g.state.count) ∙ length-circles g.state.waiting 0 g.state.count

        go : (b : Bool) → cond b 0 g.state.fraction < 4 → Good (start_from b)
        go true h = record { circles = in_use_good; waiting = waiting_good; few = omega (arith, long, few_wait g.state g.count (passed_state g e)); due = omega arith }
        go false h = record { circles = in_use_good; waiting = refl; few = omega arith; due = omega (arith, h) }

    from_fits : Fits g.section g.tol (slots_within g.slot_limit g.store) (state_from (circles_of g.store g.count) g.state)
    from_fits = omega (arith, circles_in_use g, passed_room g e)

  module _ (first : ℕ) (p : MarchState) where
    pub going_pause : (going_of g first).state ≡ Some p → PauseLaw (going_of g) first p (left_by_going g first p)
    unfolding going_after reported
    going_pause = go (going_entry g) refl
      where
        go : (a : Answer (Unit {0})) → going_entry g ≡ a → (going_after g (under_limit first) a).state ≡ Some p
            → PauseLaw (λ l. going_after g (under_limit l) a) first p
            (record g { store = store_of (going_after g (under_limit first) a).called; count = count_of g.count (going_after g (under_limit first) a).called; state = p })
        go (Err r) e h = let z : ◌≡◌ {A = ℕ} 0 1 = cc in absurd (omega arith)
        go (Ok passed) e h = run_pause g.section g.section_tol g.tol (going_tested e) (going_section e) g.store g.slot_limit (state_from (circles_of g.store g.count) g.state) (from_good e) (from_fits e) first p h

  pub going_states : (limit : ℕ) → StateLaw g.count (going_of g limit)
  unfolding going_after reported
  going_states limit = go (going_entry g) refl
    where
      go : (a : Answer (Unit {0})) → going_entry g ≡ a → StateLaw g.count (going_after g (under_limit limit) a)
      go (Err r) e = none_handed g.count (refused_on_entry r g.store) (not_14 r)
      go (Ok passed) e = run_state g.section g.section_tol g.tol (going_tested e) (going_section e) g.store g.slot_limit (state_from (circles_of g.store g.count) g.state) (from_good e) (from_fits e) limit g.count
