-- The limit law of any run of the machine whose list grows at its end and whose pairs stay settled: refinements and marches are such. Assumes nothing.
use mathlib.Core.Path.{◌≡◌, refl, sym, ap, ◌∙◌}
use mathlib.Core.Bool.{Bool}
use mathlib.Core.List.{List, [], ◌∷◌, ◌++◌, append_assoc, append-nil}
use Prim.Native.Nat.{ℕ, suc, ◌+◌, ◌-◌, ◌*◌, ◌≤◌}
use native.Mathlib.Nat.{add-zero}
use native.Mathlib.Omega.{arith}
use lib.ListN.{length, take, drop, length-append, length-drop, take-append-drop}
use lib.Seq.{take_at, drop_at, drop-append-le}
use lib.Ieee.{Float}
use Rattle.std.specs.Prelude.{Ok, Err}
use Rattle.errors.specs.Answer.{Answer}
use Rattle.errors.proofs.Laws.{not_0, not_14}
use Rattle.runs.specs.Run.{Move, goes, pays, Ending, ended, spent, unfinished, Final, under_limit, never, whole}
use Rattle.runs.proofs.RunLaws.{Falls}
use Rattle.runs.proofs.LimitLaws.{Grows, part_grows, run_holds, Limited, spent_if, if_spent, not-spent, units-min, not-spent_later, part_later, limited_runs, finishes}
use Rattle.inscribed.specs.Store.{width, circles_of, all_numbers, stored}
use Rattle.inscribed.specs.declared.Inscribed.{Inscribed}
use Rattle.inscribed.proofs.StoreLaws.{length_all, numbers-append, length-circles, numbers_of-circles}
use Rattle.refine.specs.Machine.{State, circles_in, End}
use Rattle.refine.specs.Report.{Called, ran, ending_number, called_number, store_of, units_of, count_of, Ends, reported}
use Rattle.refine.specs.Law.{old_last, Settled, LimitLaw}
use Rattle.refine.proofs.MachineLaws.{Part, Sound}

pub short-settled : (ns : List Float) (tol : Float) (cs : List Inscribed) → length cs ≤ 1 → Settled ns tol cs
short-settled ns tol [] h = tt
short-settled ns tol (a ∷ []) h = tt
short-settled ns tol (a ∷ (b ∷ cs)) h = absurd (omega arith)

pub short_last : (old : List Float) (count : ℕ) → length (old_last old count) ≤ 1
short_last old count = omega (arith, length-drop (count - 1) (circles_of old count), length-circles old 0 count)

-- ---- what the number of an ending tells

module _ {A : Type 0} where
  pub spent-number : (e : Ending (Answer A)) → ending_number e ≡ 14 → (e ≡ unfinished → ⊥) → e ≡ spent
  spent-number (ended (Ok a)) p u = absurd (omega (arith, p))
  spent-number (ended (Err r)) p u = absurd (not_14 r p)
  spent-number spent p u = refl
  spent-number unfinished p u = absurd (u refl)

  pub result-number : (e : Ending (Answer A)) → ending_number e ≡ 0 → (a : A) × (e ≡ ended (Ok a))
  result-number (ended (Ok a)) p = (a, refl)
  result-number (ended (Err r)) p = absurd (not_0 r p)
  result-number spent p = absurd (omega (arith, p))
  result-number unfinished p = absurd (omega (arith, p))

  pub not-unfinished : (a : Answer A) → ◌≡◌ {A = Ending (Answer A)} (ended a) unfinished → ⊥
  not-unfinished a p = let z : ◌≡◌ {A = ℕ} 0 1 = cc in absurd (omega arith)

-- ---- refused on entry, or at the start: nothing happens, whatever the limit

pub still_law : (ns : List Float) (tol : Float) (old : List Float) (count : ℕ) (c : Called (Unit {0})) → Ends c → store_of c ≡ old → count_of count c ≡ count → units_of c ≡ 0 → (called_number c ≡ 14 → ⊥)
    → (limit : ℕ) → LimitLaw ns tol old count (λ l. c) c (λ l. []) limit
unfolding all_numbers
still_law ns tol old count c ends same counted none other limit = record {
  plain_ends = ends;
  ends = ends;
  store = rw (same, add-zero count, append-nil (take (width * count) old)) (sym (take-append-drop (width * count) old));
  counted = rw counted (sym (add-zero count));
  settled = rw (append-nil (old_last old count)) (short-settled ns tol (old_last old count) (short_last old count));
  spent_if = λ h. absurd (omega (arith, h, none));
  if_spent = λ e. absurd (other e);
  units = omega (arith, none);
  otherwise = λ m. refl;
  larger = λ more h m. refl;
  first = λ more h. refl;
  fewer = λ more h. omega arith;
}

-- the first numbers of a store are those of its first circles
pub first_numbers : (cs more : List Inscribed) (old : List Float) → take (width * length cs) (stored (cs ++ more) old) ≡ all_numbers cs
unfolding stored
first_numbers cs more old =
    rw (numbers-append cs more, append_assoc (all_numbers cs) (all_numbers more) (drop (width * length (cs ++ more)) old))
    (take_at (all_numbers cs) (all_numbers more ++ drop (width * length (cs ++ more)) old) (width * length cs) (length_all cs))

-- ---- a family of runs, whose list begins with the old circles and whose pairs are settled

module _ (o : (ℕ → Bool) → Final State End) (limited : Limited o Part) (over : (full : ℕ → Bool) → (o full).ending ≡ unfinished → ⊥) (ns : List Float) (tol : Float) (old : List Float) (count : ℕ) (room : width * count ≤ length old)
    (grown : (full : ℕ → Bool) → (more : List Inscribed) × (circles_in (o full).state ≡ circles_of old count ++ more)) (sound : (full : ℕ → Bool) → Sound ns tol count (o full).state) where
  abbrev pub circles_under : (ℕ → Bool) → List Inscribed
  circles_under full = circles_in (o full).state

  -- the old circles, and then those accepted
  whole_list : (full : ℕ → Bool) → circles_under full ≡ circles_of old count ++ drop count (circles_under full)
  whole_list full =
      let p = grown full in
      let d : drop count (circles_under full) ≡ p.0 = ap (λ (x : List Inscribed). drop count x) p.1 ∙ drop_at (circles_of old count) p.0 count (length-circles old 0 count) in
      p.1 ∙ ap (λ (x : List Inscribed). circles_of old count ++ x) (sym d)

  whole_count : (full : ℕ → Bool) → length (circles_under full) ≡ count + length (drop count (circles_under full))
  whole_count full =
      ap length (whole_list full) ∙ length-append (circles_of old count) (drop count (circles_under full)) ∙ ap (λ (x : ℕ). x + length (drop count (circles_under full))) (length-circles old 0 count)

  whole_store : (full : ℕ → Bool) → stored (circles_under full) old ≡ take (width * count) old ++ all_numbers (drop count (circles_under full)) ++ drop (width * (count + length (drop count (circles_under full)))) old
  unfolding stored
  whole_store full =
      let ds = drop count (circles_under full) in
      let n : all_numbers (circles_under full) ≡ take (width * count) old ++ all_numbers ds =
      ap all_numbers (whole_list full) ∙ numbers-append (circles_of old count) ds ∙ ap (λ (x : List Float). x ++ all_numbers ds) (numbers_of-circles old count room) in
      ap (λ (x : List Float). x ++ drop (width * length (circles_under full)) old) n ∙ ap (λ (x : ℕ). take (width * count) old ++ all_numbers ds ++ drop (width * x) old) (whole_count full)

  whole_settled : (full : ℕ → Bool) → Settled ns tol (old_last old count ++ drop count (circles_under full))
  whole_settled full =
      let d : drop (count - 1) (circles_under full) ≡ old_last old count ++ drop count (circles_under full) =
      ap (λ (x : List Inscribed). drop (count - 1) x) (whole_list full) ∙ drop-append-le (count - 1) (circles_of old count) (drop count (circles_under full)) (omega (arith, length-circles old 0 count)) in
      rw d at (sound full).settled

  abbrev pub at : ℕ → Called (Unit {0})
  at limit = ran (reported old (o (under_limit limit)))

  pub family_law : (limit : ℕ) → LimitLaw ns tol old count at (ran (reported old (o never))) (λ l. drop count (circles_under (under_limit l))) limit
  unfolding reported
  family_law limit = record {
    plain_ends = over never;
    ends = over (under_limit limit);
    store = whole_store (under_limit limit);
    counted = whole_count (under_limit limit);
    settled = whole_settled (under_limit limit);
    spent_if = λ h. ap ending_number (spent_if o Part limited limit h);
    if_spent = λ e. if_spent o Part limited limit (spent-number _ e (over (under_limit limit)));
    units = units-min o Part limited limit;
    otherwise = λ m. ap (λ (p : Final State End). ran (reported old p)) (not-spent o Part limited limit (λ e. m (ap ending_number e)));
    larger = λ more h m. ap (λ (p : Final State End). ran (reported old p)) (not-spent_later o Part limited limit more h (λ e. m (ap ending_number e)));
    first = λ more h.
        let p = part_later o Part limited limit more h in
        let cs = circles_under (under_limit limit) in
        rw p.1 (first_numbers cs p.0 old) ∙ sym (ap (λ (x : List Inscribed). take (width * length cs) (stored x old)) (sym (append-nil cs)) ∙ first_numbers cs [] old);
    fewer = λ more h. let p = part_later o Part limited limit more h in omega (arith, ap length p.1, length-append (circles_under (under_limit limit)) p.0);
  }

-- ---- the whole run of a machine

module _ (step : State → Move State End) (measure : State → ℕ) (falls : Falls step measure) (grows : Grows step Part) (ns : List Float) (tol : Float) (old : List Float) (count : ℕ) (start : State)
    (begins : circles_in start ≡ circles_of old count) (room : width * count ≤ length old) (start_sound : Sound ns tol count start)
    (sound-goes : (s t : State) → step s ≡ goes t → Sound ns tol count s → Sound ns tol count t) (sound-pays : (s t : State) → step s ≡ pays t → Sound ns tol count s → Sound ns tol count t) where
  abbrev runs : (ℕ → Bool) → Final State End
  runs full = whole step measure full start 0

  run_grown : (full : ℕ → Bool) → (more : List Inscribed) × (circles_in (runs full).state ≡ circles_of old count ++ more)
  unfolding whole
  run_grown full =
      let p = part_grows step Part grows full (suc (measure start)) start 0 in
      (p.0, p.1 ∙ ap (λ (x : List Inscribed). x ++ p.0) begins)

  run_sound : (full : ℕ → Bool) → Sound ns tol count (runs full).state
  unfolding whole
  run_sound full = run_holds step full (Sound ns tol count) sound-goes sound-pays (suc (measure start)) start 0 start_sound

  pub run_law : (limit : ℕ) → LimitLaw ns tol old count (λ l. ran (reported old (runs (under_limit l)))) (ran (reported old (runs never))) (λ l. drop count (circles_in (runs (under_limit l)).state)) limit
  run_law limit = family_law runs (limited_runs step measure start Part grows) (λ full. finishes step measure falls full start 0) ns tol old count room run_grown run_sound limit
