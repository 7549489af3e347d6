-- Refining a finished list again: the circles that one march left, offered again, change nothing. Assumes nothing.
use mathlib.Core.Path.{◌≡◌, refl, ◌∙◌}
use mathlib.Core.Bool.{false, not}
use mathlib.Core.List.{List, [], ◌∷◌, ◌++◌}
use Rattle.std.specs.Prelude.{Ok, Err}
use Prim.Native.Nat.{ℕ, ◌-◌, ◌*◌, ◌≤◌, min}
use native.Mathlib.Omega.{arith}
use lib.ListN.{length, take, drop}
use lib.Seq.{take_at}
use lib.Ieee.{Float}
use Rattle.errors.specs.declared.Refusal.{Refusal}
use Rattle.errors.specs.Answer.{Answer, ◌>>=◌}
use Rattle.errors.proofs.Laws.{given}
use Rattle.line2.specs.Lines.{finite_line}
use Rattle.curve2.specs.Entry.{IsSection, section_entry, bad_general, finer_general}
use Rattle.curve2.proofs.Laws.{entry_passed}
use Rattle.queries.specs.Crossing.{crossing_on}
use Rattle.runs.specs.Run.{ended, under_limit}
use Rattle.inscribed.specs.Store.{width, most_slots, slots_within, circles_from, circles_of, stored, all_numbers, any_bad}
use Rattle.inscribed.specs.declared.Inscribed.{Inscribed}
use Rattle.inscribed.proofs.StoreLaws.{length_all, length-circles, stored_length, circles_of-stored}
use Rattle.halving.specs.Halving.{inscribed_on}
use Rattle.circles.specs.Asked.{circle_entry}
use Rattle.circles.proofs.TrialLaws.{crossing_passes}
use Rattle.refine.specs.Machine.{refining, circles_in, finished}
use Rattle.refine.specs.Report.{RunReport, Called, refused_on_entry, ran, reported, store_of, count_of}
use Rattle.refine.specs.Law.{Settled}
use Rattle.refine.specs.Offers.{refine_all_of}
use Rattle.refine.specs.Again.{in_order, called_in_order}
use Rattle.refine.proofs.GoodLaws.{Good}
use Rattle.refine.proofs.AgainLaws.{Tested, run_tested, calls_again, all_again}
use Rattle.camber.specs.March.{Marched, march_entry, start_of, started_run, not_started, after_start, march_after, march_of, marched_from, marched_circles}
use Rattle.camber.specs.Again.{AgainLaw}
use Rattle.camber.proofs.MarchMachine.{march-fits}
use Rattle.camber.proofs.MarchLaw.{march_law}
use Rattle.camber.proofs.GoodMarches.{march_good}

-- ---- what the entry tests of a march say

module _ (m : Marched) (e : march_entry m ≡ Ok tt) where
  also_of : section_entry m.section m.section_tol (record { number = not (finite_line m.line); tolerance = bad_general m.tol; finer = finer_general m.section_tol m.tol; room = false; state = false }) ≡ Ok tt
  unfolding circle_entry
  also_of = e

  pub march_section : IsSection m.section m.section_tol
  march_section = entry_passed m.section m.section_tol _ also_of

  pub march_tested : Tested m.section m.section_tol m.tol
  march_tested = run_tested m.section m.section_tol m.tol (not (finite_line m.line)) false false also_of

  pub start_good : (c : Inscribed) → start_of m ≡ Ok c → Good (refining [] (c ∷ []))
  unfolding inscribed_on any_bad
  start_good c is =
      let one = given (crossing_on m.section m.line) _ c is in
      record { circles = refl; waiting = rw (crossing_passes m.section m.section_tol march_section m.tol one.value c one.gives) refl; few = omega arith; due = omega arith }

-- ---- of what a march left

module _ (m : Marched) (known : m.slot_limit ≤ most_slots) (first : ℕ) (other : List Float) (as_many : slots_within m.slot_limit other ≡ slots_within m.slot_limit m.store) where
  -- the law, of what the march gives
  abbrev n_of : Called (Unit {0}) → ℕ
  n_of a = count_of 0 a

  abbrev same_of : Called (Unit {0}) → List Float
  same_of a = take (width * n_of a) (store_of a) ++ drop (width * n_of a) other

  record Law (a : Called (Unit {0})) : Type 0 where
    each : (limit : ℕ) → min (n_of a - 1) 1 ≤ limit → (circle : Inscribed)
        → called_in_order (record { section = m.section; section_tol = m.section_tol; tol = m.tol; store = other; count = 0; slot_limit = m.slot_limit; circle = circle }) limit (circles_of (store_of a) (n_of a)) 0
        ≡ in_order 0 (n_of a) (n_of a - 1) (same_of a)
    all : (limit : ℕ) → n_of a - 1 ≤ limit → (r : RunReport) → a ≡ ran r
        → refine_all_of (record { section = m.section; section_tol = m.section_tol; tol = m.tol; store = other; count = 0; slot_limit = m.slot_limit; offered = store_of a; offered_count = n_of a }) limit
        ≡ ran (record { ending = ended finished; count = n_of a; units = n_of a - 1; store = same_of a })

  none_each : (limit : ℕ) (circle : Inscribed) → called_in_order (record { section = m.section; section_tol = m.section_tol; tol = m.tol; store = other; count = 0; slot_limit = m.slot_limit; circle = circle }) limit [] 0 ≡ in_order 0 0 0 other
  unfolding called_in_order
  none_each limit circle = refl

  refused_law : (r : Refusal) → Law (refused_on_entry r m.store)
  unfolding circles_from
  refused_law r = record {
    each = λ limit h circle. none_each limit circle;
    all = λ limit h o e. let z : ◌≡◌ {A = ℕ} 0 1 = cc in absurd (omega arith);
  }

  module _ (entered : march_entry m ≡ Ok tt) where
    -- of a store that holds the circles cs: their list is settled, and each can be handed in
    held_law : (o : RunReport) (cs : List Inscribed) → o.store ≡ stored cs m.store → o.count ≡ length cs → Settled m.section m.tol cs → any_bad cs ≡ false → length cs ≤ slots_within m.slot_limit m.store → Law (ran o)
    unfolding stored
    held_law o cs s c settled good fits =
        let listed : circles_of o.store o.count ≡ cs = rw (s, c) (circles_of-stored cs m.store) in
        let room : length cs ≤ slots_within m.slot_limit other = rw as_many fits in
        let numbers : take (width * o.count) o.store ≡ all_numbers cs = rw (s, c) (take_at (all_numbers cs) (drop (width * length cs) m.store) (width * length cs) (length_all cs)) in
        let same : same_of (ran o) ≡ stored cs other = rw (numbers, c) refl in
        let long : length (circles_of o.store o.count) ≡ o.count = length-circles o.store 0 o.count in
        let memory : length o.store ≡ length m.store = rw s (stored_length cs m.store (omega (arith, fits))) in
        record {
          each = λ limit h circle. rw (listed, same, c) (calls_again m.section m.section_tol m.tol (march_tested m entered) other m.slot_limit limit cs circle settled good room (rw c at h));
          all = λ limit h r e.
              rw same
              (all_again m.section m.section_tol m.tol (march_tested m entered) other m.slot_limit o.store o.count limit (rw listed settled) (rw listed good)
              (omega (arith, c, room)) (omega (arith, c, fits, memory, known)) long h
              ∙ rw listed refl);
        }

    started : (a : Answer Inscribed) → start_of m ≡ a → Settled m.section m.tol (marched_from m (under_limit first) a) → Law (ran (after_start m (under_limit first) a))
    unfolding after_start reported marched_from stored all_numbers any_bad
    started (Err r) p s = held_law (not_started m r) [] refl refl tt refl (omega arith)
    started (Ok c) p s =
        let good = march_good m.section m.section_tol (march_section m entered) m.tol (slots_within m.slot_limit m.store) (under_limit first) (refining [] (c ∷ [])) 0 (start_good m entered c p) in
        held_law (reported m.store (started_run m (under_limit first) c)) (circles_in (started_run m (under_limit first) c).state) refl refl s good.circles
        (march-fits m.section m.tol (slots_within m.slot_limit m.store) (under_limit first) (refining [] (c ∷ [])) 0 (omega arith))

  settled_list : Settled m.section m.tol (marched_circles m (under_limit first))
  unfolding circles_from
  settled_list = (march_law m first).settled

  called_law : Law (march_of m first)
  unfolding march_after
  called_law = go (march_entry m) refl settled_list
    where
      go : (a : Answer (Unit {0})) → march_entry m ≡ a → Settled m.section m.tol (marched_from m (under_limit first) (a >>= λ passed. start_of m)) → Law (march_after m (under_limit first) a)
      go (Err r) e s = refused_law r
      go (Ok passed) e s = started e (start_of m) refl s

  pub again_law : AgainLaw m first other
  again_law = record { one_by_one = called_law.each; all_at_once = called_law.all }
