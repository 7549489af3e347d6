-- Two slot limits: of what two refinements give that differ in nothing else. A march's reports are compared by the same lemma. Assumes nothing.
use mathlib.Core.Path.{◌≡◌, refl, sym, ap, ◌∙◌}
use mathlib.Core.Bool.{Bool, true, false}
use mathlib.Core.List.{List, [], ◌∷◌, ◌++◌, append-nil}
use Prim.Native.Nat.{ℕ, ◌*◌, ◌≤◌, ◌<◌, min}
use native.Mathlib.Omega.{arith}
use borrow.Author.Tests.{ltb-false, ltb-true, le-ltb, lt-ltb}
use lib.Dec.{ltb}
use lib.ListN.{length, take, drop, length-take, take-append-drop}
use lib.Seq.{drop_at}
use lib.Ieee.{Float}
use Rattle.std.specs.Prelude.{Ok, Err}
use Rattle.errors.specs.Answer.{Answer}
use Rattle.runs.specs.Run.{Final}
use Rattle.inscribed.specs.Store.{width, slots_within, circles_of, all_numbers, stored, bad_store_within, bad_count_within, any_bad}
use Rattle.inscribed.specs.declared.Inscribed.{Inscribed}
use Rattle.inscribed.proofs.StoreLaws.{length_all, length-circles}
use Rattle.refine.specs.Law.{SlotLaw}
use Rattle.refine.specs.Machine.{State, circles_in, End}
use Rattle.refine.specs.Report.{Called, refused_on_entry, ran, reported, ending_number, count_of}
use Rattle.refine.specs.Refinement.{Offer, refine_entry, after_entry, refinement, offered_run}
use Rattle.refine.proofs.LawOfRuns.{first_numbers}
use Rattle.refine.proofs.MachineLaws.{refine-fits}
use Rattle.refine.proofs.SlotLaws.{TwoSlotLimits, two_refinements}
use Rattle.refine.proofs.RefinementLaw.{entry_count}

-- ---- the reports of two runs over one store

rest_of : (cs : List Inscribed) (old : List Float) → drop (width * length cs) (stored cs old) ≡ drop (width * length cs) old
unfolding stored
rest_of cs old = drop_at (all_numbers cs) (drop (width * length cs) old) (width * length cs) (length_all cs)

-- `held` is the room that the store has within the smaller limit m: it is m, or the larger run leaves no more than that
module _ (m held : ℕ) (old : List Float) (count : ℕ) (o p : Final State End) (is : TwoSlotLimits held o p)
    (fits : length (circles_in p.state) ≤ m → length (circles_in p.state) ≤ held) (same : m < length (circles_in p.state) → held ≡ m) where
  module _ (h : m < length (circles_in p.state)) where
    more : held < length (circles_in p.state)
    more = omega (arith, h, same h)

    first_circles : circles_in o.state ≡ take m (circles_in p.state)
    first_circles = is.first_circles more ∙ ap (λ (k : ℕ). take k (circles_in p.state)) (same h)

    long : length (circles_in o.state) ≡ m
    long = ap length first_circles ∙ omega (arith, length-take m (circles_in p.state), h)

    all : circles_in p.state ≡ circles_in o.state ++ drop m (circles_in p.state)
    all = sym (take-append-drop m (circles_in p.state)) ∙ ap (λ (x : List Inscribed). x ++ drop m (circles_in p.state)) (sym first_circles)

    same_first : take (width * m) (stored (circles_in o.state) old) ≡ take (width * m) (stored (circles_in p.state) old)
    same_first =
        rw (← long, all)
        (ap (λ (x : List Inscribed). take (width * length (circles_in o.state)) (stored x old)) (sym (append-nil (circles_in o.state))) ∙ first_numbers (circles_in o.state) [] old
        ∙ sym (first_numbers (circles_in o.state) (drop m (circles_in p.state)) old))

    rest_numbers : drop (width * m) (stored (circles_in o.state) old) ≡ drop (width * m) old
    rest_numbers = ap (λ (k : ℕ). drop (width * k) (stored (circles_in o.state) old)) (sym long) ∙ rest_of (circles_in o.state) old ∙ ap (λ (k : ℕ). drop (width * k) old) long

  pub two_reports : SlotLaw m count old (ran (reported old o)) (ran (reported old p))
  unfolding reported
  two_reports = record {
    alike = λ h. ap (λ (q : Final State End). ran (reported old q)) (is.alike_in_all (fits h));
    full = λ h. ap ending_number (is.is_full (more h));
    counted = λ h. long h;
    first = λ h. same_first h;
    rest = λ h. rest_numbers h;
    sooner = is.sooner;
  }

-- two calls that give the same, and whose count fits the smaller limit
pub same_calls : {m count : ℕ} {old : List Float} (c : Called (Unit {0})) → count_of count c ≤ m → SlotLaw m count old c c
same_calls c fits = record {
  alike = λ h. refl;
  full = λ h. absurd (omega (arith, h, fits));
  counted = λ h. absurd (omega (arith, h, fits));
  first = λ h. refl;
  rest = λ h. absurd (omega (arith, h, fits));
  sooner = omega arith;
}

-- ---- the entry tests are the same where the stated count fits both

module _ (m more : ℕ) (larger : m ≤ more) (store : List Float) (count : ℕ) (fits : count ≤ m) where
  same_tested : min count (slots_within m store) ≡ min count (slots_within more store)
  same_tested = omega (arith, larger, fits)

  pub same_bad : bad_store_within m store count ≡ bad_store_within more store count
  same_bad = ap (λ (n : ℕ). any_bad (circles_of store n)) same_tested

  pub same_room : bad_count_within m store count ≡ bad_count_within more store count
  same_room = go (ltb (slots_within m store) count) refl
    where
      go : (b : Bool) → ltb (slots_within m store) count ≡ b → b ≡ ltb (slots_within more store) count
      go true e = sym (lt-ltb (slots_within more store) count (omega (arith, ltb-true (slots_within m store) count e, larger, fits)))
      go false e = sym (le-ltb (slots_within more store) count (omega (arith, ltb-false (slots_within m store) count e, larger)))

-- ---- two refinements that differ in the slot limit alone

module _ (o : Offer) (m more : ℕ) (full : ℕ → Bool) (larger : m ≤ more) (fits : o.count ≤ m) where
  -- the same offer to a store with another slot limit
  abbrev limited : ℕ → Offer
  limited n = record o { slot_limit = n }

  same_entry : refine_entry (limited m) ≡ refine_entry (limited more)
  unfolding refine_entry
  same_entry = rw (same_bad m more larger o.store o.count fits, same_room m more larger o.store o.count fits) refl

  abbrev olds : List Inscribed
  olds = circles_of o.store o.count

  pub two_offers : SlotLaw m o.count o.store (refinement (limited m) full) (refinement (limited more) full)
  unfolding refinement after_entry
  two_offers = rw same_entry (go (refine_entry (limited more)) refl)
    where
      go : (a : Answer (Unit {0})) → refine_entry (limited more) ≡ a → SlotLaw m o.count o.store (after_entry (limited m) full a) (after_entry (limited more) full a)
      go (Err r) e = same_calls (refused_on_entry r o.store) fits
      go (Ok passed) e =
          let room = entry_count (limited m) (same_entry ∙ e) in
          let most = refine-fits o.section o.tol (slots_within more o.store) full olds (o.circle ∷ []) 0 (omega (arith, length-circles o.store 0 o.count, entry_count (limited more) e)) in
          two_reports m (slots_within m o.store) o.store o.count (offered_run (limited m) full) (offered_run (limited more) full)
          (two_refinements o.section o.tol (slots_within m o.store) (slots_within more o.store) (omega (arith, larger)) full olds (o.circle ∷ []) 0 (omega (arith, length-circles o.store 0 o.count, room)))
          (λ h. omega (arith, h, most, larger)) (λ h. omega (arith, h, most, larger))
