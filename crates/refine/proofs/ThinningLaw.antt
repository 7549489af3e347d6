-- What holds of a thinning's call beside its definition, and of a refinement of the store that it left. Assumes nothing.
use mathlib.Core.Path.{◌≡◌, refl, sym, ap, subst, ◌∙◌}
use mathlib.Core.Bool.{Bool, false}
use mathlib.Core.List.{List, [], ◌∷◌, ◌++◌}
use Rattle.std.specs.Prelude.{None, Ok, Err}
use Prim.Native.Nat.{ℕ, zero, suc, ◌+◌, ◌-◌, ◌*◌, ◌≤◌, ◌<◌, min}
use native.Mathlib.Numerals.{add-one}
use native.Mathlib.Omega.{arith}
use borrow.Author.Tests.{le-ltb}
use lib.ListN.{length, drop, get_or, replicate, length-append, length-drop, length-replicate}
use lib.Seq.{drop_at}
use lib.Ieee.{Float}
use Rattle.errors.specs.Answer.{Answer}
use Rattle.errors.specs.Lists.{last_of}
use Rattle.errors.proofs.Laws.{not_0, not_14}
use Rattle.points.specs.Numbers.{f0}
use Rattle.curve2.specs.Entry.{bad_numbers, bad_tolerance, bad_general, finer_general, section_tests, section_entry}
use Rattle.curve2.specs.declared.AlsoBad.{AlsoBad}
use Rattle.curve2.proofs.Laws.{or_left, or_right, NoneBad, none_bad}
use Rattle.runs.specs.Run.{Ending, ended, spent, unfinished, Final, under_limit, never}
use Rattle.runs.proofs.RunLaws.{whole_ends, whole_goes}
use Rattle.runs.proofs.LimitLaws.{Grows, Limited, spent_if, if_spent, not-spent, units-min, not-spent_later, limited_runs, finishes}
use Rattle.circles.specs.Trial.{trial}
use Rattle.inscribed.specs.Store.{width, circle_at, circles_from, circles_of, all_numbers, bad_circle, any_bad, slots, slots_within, bad_store, bad_store_count}
use Rattle.inscribed.specs.declared.Inscribed.{Inscribed}
use Rattle.inscribed.proofs.StoreLaws.{length_all, numbers-append, length-circles, circles-stored, circle-stored, numbers_of-circles}
use Rattle.refine.specs.Machine.{End, finished}
use Rattle.refine.specs.Law.{Settled}
use Rattle.refine.specs.Refinement.{Offer, refine_entry, accepted}
use Rattle.refine.specs.Report.{Called, refused_on_entry, ran, ending_number, called_number, store_of, units_of, count_of, Ends}
use Rattle.refine.specs.Thinning.{ThinState, thinning, thin_step, thin_measure, thin_run, kept_in, with_kept, thin_reported, thin_report, Unthinned, thin_entry, thin_after, thinned, thin_of, plain_thinning}
use Rattle.refine.specs.ThinLaw.{DropLaw, ThinLaw, ThinLimitLaw, offer_after, LaterRefinementLaw}
use Rattle.refine.proofs.LawOfRuns.{spent-number}
use Rattle.refine.proofs.RefinementLaw.{within_slots, refine_law}
use Rattle.refine.proofs.ThinLoop.{thin_count}
use Rattle.refine.proofs.ThinLaws.{thin_falls, thin_from, Keeps, Finished, finished_from, keeps_settled, keeps_few, keeps_good}
use Rattle.refine.proofs.ThinPlaces.{Placed, placed}

-- ---- a report

module _ (old : List Float) (n : ℕ) (ks : List Inscribed) (u : ℕ) where
  abbrev report : Ending End → Called (Unit {0})
  report e = ran (thin_reported old n ks u e)

  told_ending : (e : Ending End) → (thin_reported old n ks u e).ending ≡ e
  unfolding thin_reported
  told_ending (ended (Ok done)) = refl
  told_ending (ended (Err r)) = refl
  told_ending spent = refl
  told_ending unfinished = refl

  told_units : (e : Ending End) → (thin_reported old n ks u e).units ≡ u
  unfolding thin_reported
  told_units (ended (Ok done)) = refl
  told_units (ended (Err r)) = refl
  told_units spent = refl
  told_units unfinished = refl

-- ---- what a finished thinning leaves of a circle and those behind it

module _ (ns : List Float) (tol : Float) (old : List Float) (m : ℕ) (more : List Inscribed) (keeps : Keeps ns tol (circle_at old 0) (circles_from old 1 m) more) where
  abbrev ks : List Inscribed
  ks = circle_at old 0 ∷ more

  abbrev n : ℕ
  n = suc m

  abbrev left : List Float
  left = with_kept ks n old

  few : length ks ≤ n
  few = omega (arith, keeps_few ns tol (circles_from old 1 m) (circle_at old 0) more keeps, length-circles old 1 m)

  in_use : circles_of left (length ks) ≡ ks
  unfolding with_kept
  in_use = circles-stored ks _

  at_place : (i : ℕ) → i < length ks → circle_at left i ≡ get_or ks i (circle_at old 0)
  unfolding with_kept
  at_place i h = circle-stored ks _ i (circle_at old 0) h

  freed : drop (width * length ks) left ≡ replicate (width * (n - length ks)) f0 ++ drop (width * n) old
  unfolding with_kept
  freed = drop_at (all_numbers ks) _ (width * length ks) (length_all ks)

  settled : Settled ns tol (circles_of old n) → Settled ns tol (circles_of left (length ks))
  unfolding circles_from
  settled s = subst (Settled ns tol) (sym in_use) (keeps_settled ns tol (circles_from old 1 m) (circle_at old 0) more keeps s)

  good : any_bad (circles_of old n) ≡ false → any_bad (circles_of left (length ks)) ≡ false
  unfolding circles_from any_bad
  good h =
      let AllGood : List Inscribed → Type 0 = λ (cs : List Inscribed). any_bad cs ≡ false in
      subst AllGood (sym in_use)
      (rw (or_left (bad_circle (circle_at old 0)) _ h, keeps_good ns tol (circles_from old 1 m) (circle_at old 0) more keeps (or_right (bad_circle (circle_at old 0)) _ h)) refl)

  long : width * n ≤ length old → length left ≡ length old
  unfolding with_kept
  long h =
      let zeros : List Float = replicate (width * (n - length ks)) f0 in
      omega (arith, few, h, length_all ks, length-append (all_numbers ks) (zeros ++ drop (width * n) old), length-append zeros (drop (width * n) old), length-replicate (width * (n - length ks)) f0, length-drop (width * n) old)

  where_kept : Placed ns tol old 0 1 m (circle_at old 0) more
  where_kept = placed ns tol old m 1 0 (circle_at old 0) more refl (omega arith) (λ e. refl) keeps

  abbrev place : ℕ → ℕ
  place = where_kept.place

  dropped : (i k : ℕ) → i + 1 < length ks → place i < k → k < place (suc i) → trial ns tol (get_or ks i (circle_at old 0)) (circle_at old (k + 1)) ≡ Ok None
  dropped zero k h l u = where_kept.dropped_first k (omega (arith, h)) (omega (arith, l, where_kept.first)) u
  dropped (suc i) k h l u = where_kept.dropped i k (circle_at old 0) (omega (arith, h)) l u

  pub drop_law : DropLaw ns tol old n left (length ks)
  drop_law = record {
    place = place;
    moved = λ i h. at_place i h ∙ where_kept.moved i (circle_at old 0) (omega (arith, h));
    in_order = λ i h. rw (add-one i) (where_kept.in_order i (omega (arith, h)));
    first = where_kept.first;
    last = let z : length ks - 1 ≡ length more = omega arith in rw z (omega (arith, where_kept.last));
    some_left = λ h. omega arith;
    dropped = λ i k h l u. rw (at_place i (omega (arith, h))) (dropped i k h l (rw (add-one i) at u));
    stays = λ i h. rw (add-one i, at_place i (omega (arith, h))) (where_kept.stays i (circle_at old 0) (omega (arith, h)));
  }

  first_left : circle_at left 0 ≡ circle_at old 0
  first_left = at_place 0 (omega arith)

  last_left : circle_at left (length ks - 1) ≡ circle_at old (n - 1)
  last_left = drop_law.moved (length ks - 1) (omega arith) ∙ ap (circle_at old) drop_law.last

-- ---- of a run

module _ (ns : List Float) (tol : Float) (old : List Float) where
  module _ (n : ℕ) where
    abbrev run : (ℕ → Bool) → Final ThinState End
    run full = thin_run ns tol full (circles_of old n)

    abbrev pub told : (ℕ → Bool) → Called (Unit {0})
    told full = ran (thin_report old n (run full))

    -- ---- the limit

    number_is : (full : ℕ → Bool) → called_number (told full) ≡ ending_number (run full).ending
    number_is full = ap ending_number (told_ending old n (kept_in (run full).state) (run full).units (run full).ending)

    units_are : (full : ℕ → Bool) → units_of (told full) ≡ (run full).units
    units_are full = told_units old n (kept_in (run full).state) (run full).units (run full).ending

    run_ends : (full : ℕ → Bool) → (run full).ending ≡ unfinished → ⊥
    run_ends full = finishes (thin_step ns tol) thin_measure (thin_falls ns tol) full (thinning [] (circles_of old n)) 0

    told_ends : (full : ℕ → Bool) → Ends (told full)
    told_ends full e = run_ends full (sym (told_ending old n (kept_in (run full).state) (run full).units (run full).ending) ∙ e)

    -- nothing is said of two states: a store that isn't thinned to its end is whole
    abbrev Any : ThinState → ThinState → Type 0
    Any s v = Unit {0}

    grows : Grows (thin_step ns tol) Any
    grows = record { same = λ s. tt; chain = λ s v w p q. tt; goes_on = λ s v p. tt; pays_on = λ s v p. tt }

    runs : Limited run Any
    runs = limited_runs (thin_step ns tol) thin_measure (thinning [] (circles_of old n)) Any grows

    pub run_limit_law : (limit : ℕ) → ThinLimitLaw (λ l. told (under_limit l)) (told never) limit
    run_limit_law limit =
        let same : Final ThinState End → Called (Unit {0}) = λ o. ran (thin_report old n o) in
        let unspent : (called_number (told (under_limit limit)) ≡ 14 → ⊥) → (run (under_limit limit)).ending ≡ spent → ⊥ = λ m e. m (number_is (under_limit limit) ∙ ap ending_number e) in
        record {
          plain_ends = told_ends never;
          ends = told_ends (under_limit limit);
          spent_if = λ h. number_is (under_limit limit) ∙ ap ending_number (spent_if run Any runs limit (rw (units_are never) at h));
          if_spent = λ e. rw (units_are never) (if_spent run Any runs limit (spent-number _ (sym (number_is (under_limit limit)) ∙ e) (run_ends (under_limit limit))));
          units = rw (units_are (under_limit limit), units_are never) (units-min run Any runs limit);
          otherwise = λ m. ap same (not-spent run Any runs limit (unspent m));
          larger = λ more h m. ap same (not-spent_later run Any runs limit more h (unspent m));
        }

  -- ---- what it leaves

  -- the law, and what the entry tests of a later refinement rest on
  pub record Leaves (n : ℕ) (c : Called (Unit {0})) : Type 0 where
    pub law : ThinLaw ns tol old n c
    pub long : width * n ≤ length old → length (store_of c) ≡ length old
    pub good : any_bad (circles_of old n) ≡ false → any_bad (circles_of (store_of c) (count_of n c)) ≡ false

  abbrev reported : ℕ → List Inscribed → ℕ → Ending End → Called (Unit {0})
  reported n ks u e = ran (thin_reported old n ks u e)

  still_leaves : (n : ℕ) (c : Called (Unit {0})) → store_of c ≡ old → count_of n c ≡ n → (called_number c ≡ 0 → ⊥) → Leaves n c
  still_leaves n c s k other = record {
    law = record {
      untouched = λ m. (s, k);
      trials = λ z. absurd (other z);
      first = λ h. rw s refl;
      last = λ h. rw (s, k) refl;
      drops = λ z. absurd (other z);
      fewer = omega (arith, k);
      freed = λ z. absurd (other z);
      settled = λ h. rw (s, k) h;
    };
    long = λ h. ap length s;
    good = λ h. rw (s, k) h;
  }

  -- where it isn't finished
  other_leaves : (n : ℕ) (ks : List Inscribed) (u : ℕ) (e : Ending End) → (e ≡ ended finished → ⊥) → Leaves n (reported n ks u e)
  unfolding thin_reported
  other_leaves n ks u (ended (Ok done)) m = absurd (m refl)
  other_leaves n ks u (ended (Err r)) m = still_leaves n (reported n ks u (ended (Err r))) refl refl (not_0 r)
  other_leaves n ks u spent m = still_leaves n (reported n ks u spent) refl refl (λ z. absurd (omega (arith, z)))
  other_leaves n ks u unfinished m = still_leaves n (reported n ks u unfinished) refl refl (λ z. absurd (omega (arith, z)))

  -- without a circle
  none_leaves : Leaves 0 (reported 0 [] 0 (ended finished))
  unfolding thin_reported with_kept all_numbers circles_from
  none_leaves = record {
    law = record {
      untouched = λ m. absurd (m refl);
      trials = λ z. refl;
      first = λ h. absurd (omega arith);
      last = λ h. absurd (omega arith);
      drops = λ z. record {
        place = λ i. 0;
        moved = λ i h. absurd (omega arith);
        in_order = λ i h. absurd (omega arith);
        first = refl;
        last = refl;
        some_left = λ h. absurd (omega arith);
        dropped = λ i k h l u. absurd (omega arith);
        stays = λ i h. absurd (omega arith);
      };
      fewer = omega arith;
      freed = λ z. refl;
      settled = λ s. tt;
    };
    long = λ h. refl;
    good = λ h. h;
  }

  module _ (m : ℕ) where
    abbrev a : Inscribed
    a = circle_at old 0

    abbrev others : List Inscribed
    others = circles_from old 1 m

    -- with one
    some_leaves : (more : List Inscribed) (u : ℕ) → Keeps ns tol a others more → u ≡ m - 1 → Leaves (suc m) (reported (suc m) (a ∷ more) u (ended finished))
    unfolding thin_reported
    some_leaves more u k e = record {
      law = record {
        untouched = λ z. absurd (z refl);
        trials = λ z. omega (arith, e);
        first = λ h. first_left ns tol old m more k;
        last = λ h. last_left ns tol old m more k;
        drops = λ z. drop_law ns tol old m more k;
        fewer = few ns tol old m more k;
        freed = λ z. freed ns tol old m more k;
        settled = settled ns tol old m more k;
      };
      long = long ns tol old m more k;
      good = good ns tol old m more k;
    }

    module _ (full : ℕ → Bool) where
      unfold_first : run (suc m) full ≡ thin_from ns tol full (thinning (a ∷ []) others) 0
      unfolding thin_step circles_from
      unfold_first = whole_goes (thin_step ns tol) thin_measure (thin_falls ns tol) full (thinning [] (circles_of old (suc m))) 0 (thinning (a ∷ []) others) refl

      finished_leaves : (run (suc m) full).ending ≡ ended finished → Leaves (suc m) (told (suc m) full)
      unfolding last_of
      finished_leaves e =
          let f : Finished ns tol full a [] others 0 (thin_from ns tol full (thinning (a ∷ []) others) 0) = finished_from ns tol full others a [] 0 (rw unfold_first at e) in
          rw (e, unfold_first, f.state) (some_leaves f.more _ f.keeps (omega (arith, f.units, length-circles old 1 m)))

  pub run_leaves : (n : ℕ) (full : ℕ → Bool) → Leaves n (told n full)
  unfolding thin_step circles_from
  run_leaves zero full = rw (whole_ends (thin_step ns tol) thin_measure (thin_falls ns tol) full (thinning [] []) 0 finished refl) none_leaves
  run_leaves (suc m) full = go (run (suc m) full).ending refl
    where
      go : (e : Ending End) → (run (suc m) full).ending ≡ e → Leaves (suc m) (told (suc m) full)
      go (ended (Ok done)) p = finished_leaves m full p
      go (ended (Err r)) p = rw p (other_leaves (suc m) _ _ (ended (Err r)) (λ q. let z : ◌≡◌ {A = ℕ} 0 1 = cc in absurd (omega arith)))
      go spent p = rw p (other_leaves (suc m) _ _ spent (λ q. let z : ◌≡◌ {A = ℕ} 0 1 = cc in absurd (omega arith)))
      go unfinished p = absurd (run_ends (suc m) full p)

-- ---- the call

module _ (t : Unthinned) where
  pub limit_law : (limit : ℕ) → ThinLimitLaw (thin_of t) (plain_thinning t) limit
  unfolding thinned thin_after
  limit_law limit = go (thin_entry t)
    where
      go : (a : Answer (Unit {0})) → ThinLimitLaw (λ l. thin_after t (under_limit l) a) (thin_after t never a) limit
      go (Err r) = record {
        plain_ends = tt;
        ends = tt;
        spent_if = λ h. absurd (omega (arith, h));
        if_spent = λ e. absurd (not_14 r e);
        units = omega arith;
        otherwise = λ m. refl;
        larger = λ more h m. refl;
      }
      go (Ok passed) = run_limit_law t.section t.tol t.store t.count limit

  pub leaves : (full : ℕ → Bool) → Leaves t.section t.tol t.store t.count (thinned t full)
  unfolding thinned thin_after
  leaves full = go (thin_entry t)
    where
      go : (a : Answer (Unit {0})) → Leaves t.section t.tol t.store t.count (thin_after t full a)
      go (Err r) = still_leaves t.section t.tol t.store t.count (refused_on_entry r t.store) refl refl (not_0 r)
      go (Ok passed) = run_leaves t.section t.tol t.store t.count full

  pub left_law : (full : ℕ → Bool) → ThinLaw t.section t.tol t.store t.count (thinned t full)
  left_law full = (leaves full).law

  -- ---- a later refinement of what it left

  module _ (entered : thin_entry t ≡ Ok tt) (limit slot_limit : ℕ) (circle : Inscribed) (passes : bad_circle circle ≡ false) (fits : count_of t.count (thin_of t limit) ≤ slot_limit) where
    abbrev offer : Offer
    offer = offer_after t (thin_of t limit) slot_limit circle

    abbrev also : AlsoBad
    also = record { number = bad_store t.store t.count; tolerance = bad_general t.tol; finer = finer_general t.section_tol t.tol; room = bad_store_count t.store t.count; state = false }

    tests : NoneBad (section_tests t.section t.section_tol also)
    unfolding section_entry thin_entry
    tests = none_bad (section_tests t.section t.section_tol also) entered

    held : t.count ≤ slots t.store
    held = let h = thin_count t entered in omega (arith, h.0, h.1)

    good_before : any_bad (circles_of t.store t.count) ≡ false
    good_before = let few : min t.count (slots t.store) ≡ t.count = omega (arith, held) in let h : bad_store t.store t.count ≡ false = or_right (bad_numbers t.section) (bad_store t.store t.count) tests.1.0 in rw few at h

    now : Leaves t.section t.tol t.store t.count (thin_of t limit)
    now = leaves (under_limit limit)

    room : offer.count ≤ slots_within slot_limit offer.store
    room = omega (arith, fits, held, now.law.fewer, now.long (omega (arith, held)))

    enters : refine_entry offer ≡ Ok tt
    unfolding refine_entry section_entry
    enters =
        let few : min offer.count (slots_within slot_limit offer.store) ≡ offer.count = omega (arith, room) in
        rw (tests.0, or_left (bad_numbers t.section) _ tests.1.0, few, now.good good_before, passes, or_left (bad_tolerance t.section_tol) _ tests.1.1.0, or_right (bad_tolerance t.section_tol) _ tests.1.1.0, tests.1.1.1.0, le-ltb (slots_within slot_limit offer.store) offer.count room, tests.1.1.1.1.1.1.0) refl

    pub later_law : (later : ℕ) → LaterRefinementLaw offer later
    later_law later =
        let law = refine_law offer later in
        let olds = circles_of offer.store offer.count in
        let acc = accepted offer (under_limit later) in
        let long : offer.count + length acc ≡ length (olds ++ acc) = omega (arith, length-append olds acc, length-circles offer.store 0 offer.count) in
        record {
          enters = enters;
          appended = rw (law.store, law.counted, long, ← (numbers_of-circles offer.store offer.count (within_slots slot_limit offer.store offer.count room)), ← (numbers-append olds acc)) (circles-stored (olds ++ acc) _);
        }
