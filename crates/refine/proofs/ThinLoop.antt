-- The loops of a thinning: the one that decides keeps that what is left of the run gives the whole, and the one that moves keeps that the kept circles so far stand at the store's start. Assumes nothing.
use mathlib.Core.Path.{◌≡◌, refl, sym, ap, ◌∙◌}
use mathlib.Core.Bool.{Bool, true, false}
use mathlib.Core.List.{List, [], ◌∷◌, ◌++◌}
use Rattle.std.specs.Prelude.{Option, Some, None, Ok, Err, is_some}
use Prim.Native.Nat.{ℕ, zero, suc, ◌+◌, ◌-◌, ◌*◌, ◌≤◌, ◌<◌}
use native.Mathlib.Numerals.{add-one}
use native.Mathlib.Omega.{arith}
use borrow.Author.Tests.{le-leb, lt-leb}
use lib.ListN.{length, take, drop, get_or, replicate, length-append, length-take, length-drop}
use lib.Seq.{take_at, drop-append-add, drop-drop}
use lib.Ieee.{Float, nan}
use Rattle.errors.specs.Answer.{Answer}
use Rattle.errors.specs.Lists.{last_of}
use Rattle.errors.specs.declared.Refusal.{Refusal}
use Rattle.points.specs.Numbers.{f0}
use Rattle.curve2.proofs.Laws.{entry_room}
use Rattle.runs.specs.Run.{pays, Ending, ended, spent, unfinished, Final, final_of, under_limit}
use Rattle.runs.proofs.RunLaws.{whole_ends, whole_goes, whole_pays, whole_spent}
use Rattle.circles.specs.Trial.{trial}
use Rattle.inscribed.specs.Store.{width, circle_from, circle_at, circles_from, circles_of, all_numbers, stored, most_slots}
use Rattle.inscribed.specs.Code.{with_circle}
use Rattle.inscribed.specs.declared.Inscribed.{Inscribed}
use Rattle.inscribed.proofs.StoreLaws.{length_all, stored_push, stored-again, count_fits}
use borrow.Rule.Slice.PartMut.{put_mid}
use Rattle.std.proofs.lemmas.List.{get_or-append_right, get_or-drop, take_more, take_all, length-replicate}
use Rattle.std.proofs.lemmas.List.Edits.{paste_all}
use Rattle.std.proofs.lemmas.Slice.{put_mid-paste}
use Rattle.refine.specs.Machine.{End, finished}
use Rattle.refine.specs.Report.{RunReport, listed_end, listed_run}
use Rattle.refine.specs.declared.Run.{Run}
use Rattle.refine.specs.declared.RunEnd.{RunEnd}
use Rattle.refine.specs.Thinning.{ThinState, thinning, trial_refused, after_pair, thin_step, thin_measure, thin_run, kept_in, with_kept, thin_reported, thin_report, Unthinned, thin_entry}
use Rattle.refine.specs.Code.{kept_from, Decides}
use Rattle.refine.proofs.ThinLaws.{thin_falls, thin_from, last_more}

pub kept_true : (ns : List Float) (k : ℕ) (fs : List Bool) → kept_from ns k (fs ++ (true ∷ [])) ≡ kept_from ns k fs ++ (circle_at ns (k + length fs) ∷ [])
kept_true ns k [] = let e : k ≡ k + 0 = omega arith in rw (← e) refl
kept_true ns k (true ∷ fs) = let e : k + suc (length fs) ≡ suc k + length fs = omega arith in rw (e, kept_true ns (suc k) fs) refl
kept_true ns k (false ∷ fs) = let e : k + suc (length fs) ≡ suc k + length fs = omega arith in rw (e, kept_true ns (suc k) fs) refl

pub kept_false : (ns : List Float) (k : ℕ) (fs : List Bool) → kept_from ns k (fs ++ (false ∷ [])) ≡ kept_from ns k fs
kept_false ns k [] = refl
kept_false ns k (true ∷ fs) = rw (kept_false ns (suc k) fs) refl
kept_false ns k (false ∷ fs) = kept_false ns (suc k) fs

-- ---- it is decided which circles are kept

module _ (ns : List Float) (tol : Float) (limit : ℕ) (store : List Float) (n : ℕ) (target : Final ThinState End) where
  abbrev full : ℕ → Bool
  full = under_limit limit

  -- i flags are known, the last circle kept is `last`, and what is left of the run from there gives the whole
  pub record Deciding (i u : ℕ) (flags : List Bool) (last : Inscribed) : Type 0 where
    pub first : Inscribed
    pub others : List Inscribed
    pub flagged : length flags ≡ i
    pub kept : kept_from store 0 flags ≡ first ∷ others
    pub last_is : last ≡ last_of first others
    pub left : thin_from ns tol full (thinning (first ∷ others) (circles_from store i (n - i))) u ≡ target

  module _ (i u : ℕ) (flags : List Bool) (last : Inscribed) (is : Deciding i u flags last) where
    abbrev ks : List Inscribed
    ks = is.first ∷ is.others

    -- with the next flag, that of the circle in slot i
    next_kept : kept_from store 0 (flags ++ (true ∷ [])) ≡ ks ++ (circle_at store i ∷ [])
    next_kept = let z : 0 + length flags ≡ i = omega (arith, is.flagged) in kept_true store 0 flags ∙ rw (z, is.kept) refl

    next_flagged : (b : Bool) → length (flags ++ (b ∷ [])) ≡ i + 1
    next_flagged b = omega (arith, length-append flags (b ∷ []), is.flagged)

    -- ---- a circle between the first and the last
    module _ (inner : i + 1 < n) where
      abbrev rest : List Inscribed
      rest = circles_from store (suc (suc i)) (n - suc (suc i))

      two_more : circles_from store i (n - i) ≡ circle_at store i ∷ (circle_at store (i + 1) ∷ rest)
      unfolding circles_from
      two_more = let e : n - i ≡ suc (suc (n - suc (suc i))) = omega arith in rw (e, add-one i) refl

      one_more : circle_at store (i + 1) ∷ rest ≡ circles_from store (i + 1) (n - (i + 1))
      unfolding circles_from
      one_more = let e : n - (i + 1) ≡ suc (n - suc (suc i)) = omega arith in rw (e, add-one i) refl

      -- the trial that the code makes
      abbrev pub asked : Answer (Option Inscribed)
      asked = trial ns tol last (circle_at store (i + 1))

      abbrev state : ThinState
      state = thinning ks (circle_at store i ∷ (circle_at store (i + 1) ∷ rest))

      abbrev next : Answer (Option Inscribed) → ThinState
      next r = after_pair ks (circle_at store i) (circle_at store (i + 1) ∷ rest) r

      paying : thin_step ns tol state ≡ pays (next asked)
      unfolding thin_step
      paying = rw is.last_is refl

      here : thin_from ns tol full state u ≡ target
      here = rw two_more at is.left

      pub decide_spent : limit ≤ u → final_of spent state u ≡ target
      decide_spent h = sym (whole_spent (thin_step ns tol) thin_measure (thin_falls ns tol) full state u (next asked) paying (le-leb limit u h)) ∙ here

      module _ (more : u < limit) where
        paid : (r : Answer (Option Inscribed)) → asked ≡ r → thin_from ns tol full (next r) (u + 1) ≡ target
        paid r e = rw (← e, add-one u) (sym (whole_pays (thin_step ns tol) thin_measure (thin_falls ns tol) full state u (next asked) paying (lt-leb limit u more)) ∙ here)

        pub decide_refused : (x : Refusal) → asked ≡ Err x → final_of (ended (Err x)) (trial_refused x) (u + 1) ≡ target
        unfolding after_pair thin_step
        decide_refused x e = sym (whole_ends (thin_step ns tol) thin_measure (thin_falls ns tol) full (trial_refused x) (u + 1) (Err x) refl) ∙ paid (Err x) e

        pub decide_dropped : (r : Option Inscribed) → asked ≡ Ok r → is_some r ≡ false → Deciding (i + 1) (u + 1) (flags ++ (false ∷ [])) last
        unfolding after_pair
        decide_dropped (Some d) e h = let z : ◌≡◌ {A = ℕ} 0 1 = cc in absurd (omega arith)
        decide_dropped None e h = record {
          first = is.first;
          others = is.others;
          flagged = next_flagged false;
          kept = kept_false store 0 flags ∙ is.kept;
          last_is = is.last_is;
          left = rw one_more at (paid (Ok None) e);
        }

        pub decide_kept : (r : Option Inscribed) → asked ≡ Ok r → is_some r ≡ true → Deciding (i + 1) (u + 1) (flags ++ (true ∷ [])) (circle_at store i)
        unfolding after_pair
        decide_kept None e h = let z : ◌≡◌ {A = ℕ} 0 1 = cc in absurd (omega arith)
        decide_kept (Some d) e h = record {
          first = is.first;
          others = is.others ++ (circle_at store i ∷ []);
          flagged = next_flagged true;
          kept = next_kept;
          last_is = sym (last_more is.first is.others (circle_at store i));
          left = rw one_more at (paid (Ok (Some d)) e);
        }

    -- ---- the last circle
    module _ (last_one : i + 1 ≡ n) where
      one_left : circles_from store i (n - i) ≡ circle_at store i ∷ []
      unfolding circles_from
      one_left = let e : n - i ≡ 1 = omega arith in rw e refl

      abbrev all : List Inscribed
      all = ks ++ (circle_at store i ∷ [])

      pub decide_over : (length (flags ++ (true ∷ [])) ≡ n) × (final_of (ended finished) (thinning all []) u ≡ target) × (kept_from store 0 (flags ++ (true ∷ [])) ≡ all)
      unfolding thin_step
      decide_over = (
        omega (arith, next_flagged true),
        sym (whole_goes (thin_step ns tol) thin_measure (thin_falls ns tol) full (thinning ks (circle_at store i ∷ [])) u (thinning all []) refl
            ∙ whole_ends (thin_step ns tol) thin_measure (thin_falls ns tol) full (thinning all []) u finished refl)
            ∙ (rw one_left at is.left),
        next_kept,
      )

pub decide_start : (ns : List Float) (tol : Float) (limit : ℕ) (store : List Float) (n : ℕ) → 0 < n
    → Deciding ns tol limit store n (thin_run ns tol (under_limit limit) (circles_of store n)) 1 0 (true ∷ []) (circle_at store 0)
unfolding thin_step circles_from last_of
decide_start ns tol limit store zero h = absurd (omega arith)
decide_start ns tol limit store (suc m) h = record {
  first = circle_at store 0;
  others = [];
  flagged = refl;
  kept = refl;
  last_is = refl;
  left = let e : suc m - 1 ≡ m = omega arith in
      rw e (sym (whole_goes (thin_step ns tol) thin_measure (thin_falls ns tol) (under_limit limit) (thinning [] (circles_of store (suc m))) 0 (thinning (circle_at store 0 ∷ []) (circles_from store 1 m)) refl));
}

-- ---- what is told at each ending

module _ (store : List Float) (n : ℕ) (flags : List Bool) (u : ℕ) (target : Final ThinState End) where
  -- of one that isn't finished, nothing of the flags
  pub other_decides : (e : RunEnd (Unit {0})) (s : ThinState) → final_of (listed_end e) s u ≡ target → (listed_end e ≡ ended finished → ⊥) → Decides store n flags (record { end = e; count = n; units = u }) target
  other_decides e s p f =
      (ap (λ (o : Final ThinState End). o.ending) p, ap (λ (o : Final ThinState End). o.units) p, refl, λ q. absurd (f (ap (λ (o : Final ThinState End). o.ending) p ∙ q)))

  pub over_decides : (kept : List Inscribed) → (length flags ≡ n) × (final_of (ended finished) (thinning kept []) u ≡ target) × (kept_from store 0 flags ≡ kept)
      → Decides store n flags (record { end = RunEnd.Finished tt; count = n; units = u }) target
  over_decides kept p =
      (ap (λ (o : Final ThinState End). o.ending) p.1, ap (λ (o : Final ThinState End). o.units) p.1, refl, λ q. (p.0, p.2 ∙ ap (λ (o : Final ThinState End). kept_in o.state) p.1))

pub spent-unfinished : listed_end {A = Unit {0}} RunEnd.Spent ≡ ended finished → ⊥
spent-unfinished p = let z : ◌≡◌ {A = ℕ} 0 1 = cc in absurd (omega arith)

pub refused-unfinished : (x : Refusal) → listed_end {A = Unit {0}} (RunEnd.Refused x) ≡ ended finished → ⊥
refused-unfinished x p = let z : ◌≡◌ {A = ℕ} 0 1 = cc in absurd (omega arith)

-- ---- the kept circles move up

-- a circle behind those that are stored is the old one
circle_behind : (xs : List Inscribed) (old : List Float) (k : ℕ) → length xs ≤ k → circle_at (stored xs old) k ≡ circle_at old k
unfolding circle_from stored
circle_behind xs old k h =
    let number : (i : ℕ) → width * length xs ≤ i → get_or (stored xs old) i nan ≡ get_or old i nan = λ i m.
    get_or-append_right (all_numbers xs) (drop (width * length xs) old) (width * length xs) i nan (length_all xs) m
    ∙ get_or-drop (width * length xs) old (i - width * length xs) nan
    ∙ (let e : width * length xs + (i - width * length xs) ≡ i = omega (arith, m) in ap (λ (j : ℕ). get_or old j nan) e) in
    rw (number (k * width) (omega (arith, h)), number (k * width + 1) (omega (arith, h)), number (k * width + 2) (omega (arith, h)), number (k * width + 3) (omega (arith, h)), number (k * width + 4) (omega (arith, h)), number (k * width + 5) (omega (arith, h)), number (k * width + 6) (omega (arith, h)), number (k * width + 7) (omega (arith, h)), number (k * width + 8) (omega (arith, h))) refl

module _ (old : List Float) (flags : List Bool) where
  -- of the first k circles those that are kept stand at the store's start
  pub record Moved (store : List Float) (free k : ℕ) : Type 0 where
    pub few : free ≤ k
    pub counted : free ≡ length (kept_from old 0 (take k flags))
    pub holds : store ≡ stored (kept_from old 0 (take k flags)) old

  pub moved_start : Moved old 0 0
  unfolding stored all_numbers
  moved_start = record { few = omega arith; counted = refl; holds = refl }

  module _ (store : List Float) (free k : ℕ) (m : Moved store free k) where
    abbrev xs : List Inscribed
    xs = kept_from old 0 (take k flags)

    module _ (h : k < length flags) where
      one_flag : (b : Bool) → get_or flags k false ≡ b → take (k + 1) flags ≡ take k flags ++ (b ∷ [])
      one_flag b e = take_more flags k false h ∙ ap (λ (x : Bool). take k flags ++ (x ∷ [])) e

      pub moved_dropped : get_or flags k false ≡ false → Moved store free (k + 1)
      moved_dropped e = record { few = omega (arith, m.few); counted = rw (one_flag false e, kept_false old 0 (take k flags)) m.counted; holds = rw (one_flag false e, kept_false old 0 (take k flags)) m.holds }

      pub moved_kept : get_or flags k false ≡ true → Moved (with_circle store free (circle_at store k)) (free + 1) (k + 1)
      moved_kept e =
          let place : 0 + length (take k flags) ≡ k = omega (arith, length-take k flags, h) in
          record {
            few = omega (arith, m.few);
            counted = rw (one_flag true e, kept_true old 0 (take k flags)) (omega (arith, m.counted, length-append xs (circle_at old (0 + length (take k flags)) ∷ [])));
            holds = rw (one_flag true e, kept_true old 0 (take k flags), place, m.holds, m.counted, circle_behind xs old k (omega (arith, m.few, m.counted))) (stored_push xs old (circle_at old k));
          }

    -- all have moved, and the slots that are freed become zero
    module _ (all_moved : length flags ≤ k) where
      abbrev left : List Inscribed
      left = kept_from old 0 flags

      whole_list : xs ≡ left
      whole_list = ap (λ (x : List Bool). kept_from old 0 x) (take_all k flags all_moved)

      pub moved_count : free ≡ length left
      moved_count = m.counted ∙ ap length whole_list

      pub moved_store : store ≡ stored left old
      moved_store = m.holds ∙ ap (λ (x : List Inscribed). stored x old) whole_list

-- behind the kept circles each number becomes zero up to slot n
pub with_zeros : (ks : List Inscribed) (n free : ℕ) (old store zeros : List Float) → free ≡ length ks → free ≤ n → n * width ≤ length store → store ≡ stored ks old
    → zeros ≡ replicate (length (take (n * width - free * width) (drop (free * width) store))) f0 → put_mid (free * width) (n * width - free * width) store zeros ≡ with_kept ks n old
unfolding stored with_kept
with_zeros ks n free old store zeros f h l s z =
    let k : ℕ = n * width - free * width in
    let freed : length (take k (drop (free * width) store)) ≡ k = omega (arith, length-take k (drop (free * width) store), length-drop (free * width) store, h, l) in
    let long : length (all_numbers ks) ≡ free * width = omega (arith, length_all ks, f) in
    let rest : free * width + k ≡ length (all_numbers ks) + k = omega (arith, long) in
    let slot : width * length ks + k ≡ width * n = omega (arith, f, h) in
    let slots : k ≡ width * (n - length ks) = omega (arith, f) in
    put_mid-paste (free * width) k store zeros (replicate k f0) k (rw freed at z) refl (sym (length-replicate k f0))
    ∙ paste_all store (free * width) (replicate k f0) k (sym (length-replicate k f0))
    ∙ rw (s, take_at (all_numbers ks) (drop (width * length ks) old) (free * width) long, rest, drop-append-add (all_numbers ks) (drop (width * length ks) old) k, drop-drop k (width * length ks) old, slot, slots) refl

-- ---- the run as a whole

abbrev ran_to : ℕ → List Float → RunReport
ran_to n store = record { ending = ended finished; count = n; units = 0; store = store }

-- under two circles
pub few_thinned : (ns : List Float) (tol : Float) (limit : ℕ) (old : List Float) (n : ℕ) → n < 2 → width * n ≤ length old
    → listed_run (record { end = RunEnd.Finished tt; count = n; units = 0 }) old ≡ thin_report old n (thin_run ns tol (under_limit limit) (circles_of old n))
unfolding thin_step circles_from thin_reported with_kept stored
few_thinned ns tol limit old zero h w =
    rw (whole_ends (thin_step ns tol) thin_measure (thin_falls ns tol) (under_limit limit) (thinning [] []) 0 finished refl)
    (ap (λ (x : List Float). ran_to 0 x) (sym (stored-again old 0 w)))
few_thinned ns tol limit old (suc zero) h w =
    rw (
      whole_goes (thin_step ns tol) thin_measure (thin_falls ns tol) (under_limit limit) (thinning [] (circle_at old 0 ∷ [])) 0 (thinning (circle_at old 0 ∷ []) []) refl,
      whole_ends (thin_step ns tol) thin_measure (thin_falls ns tol) (under_limit limit) (thinning (circle_at old 0 ∷ []) []) 0 finished refl,
    )
    (ap (λ (x : List Float). ran_to 1 x) (sym (stored-again old 1 w)))
few_thinned ns tol limit old (suc (suc n)) h w = absurd (omega arith)

-- what is returned is never unfinished
not_listed : (e : RunEnd (Unit {0})) → listed_end e ≡ unfinished → ⊥
not_listed (RunEnd.Finished x) p = let z : ◌≡◌ {A = ℕ} 0 1 = cc in absurd (omega arith)
not_listed RunEnd.Spent p = let z : ◌≡◌ {A = ℕ} 0 1 = cc in absurd (omega arith)
not_listed (RunEnd.Refused r) p = let z : ◌≡◌ {A = ℕ} 0 1 = cc in absurd (omega arith)

pub other_unfinished : (e : RunEnd (Unit {0})) → ((x : Unit {0}) → e ≡ RunEnd.Finished x → ⊥) → listed_end e ≡ ended finished → ⊥
other_unfinished (RunEnd.Finished done) f q = f done refl
other_unfinished RunEnd.Spent f q = spent-unfinished q
other_unfinished (RunEnd.Refused r) f q = refused-unfinished r q

module _ (old : List Float) (n : ℕ) (flags : List Bool) (r : Run (Unit {0})) (o : Final ThinState End) (is : Decides old n flags r o) where
  pub other_thinned : (listed_end r.end ≡ ended finished → ⊥) → listed_run r old ≡ thin_report old n o
  unfolding thin_reported
  other_thinned f = go o.ending is.0
    where
      go : (e : Ending End) → listed_end r.end ≡ e → listed_run r old ≡ thin_reported old n (kept_in o.state) o.units e
      go (ended (Ok done)) p = absurd (f p)
      go (ended (Err x)) p = rw (p, is.1, is.2) refl
      go spent p = rw (p, is.1, is.2) refl
      go unfinished p = absurd (not_listed r.end p)

  pub finished_thinned : (left : ℕ) (store : List Float) → listed_end r.end ≡ ended finished → left ≡ length (kept_from old 0 flags) → store ≡ with_kept (kept_from old 0 flags) n old
      → listed_run (record { end = RunEnd.Finished tt; count = left; units = r.units }) store ≡ thin_report old n o
  unfolding thin_reported
  finished_thinned left store e l s = let is_over : o.ending ≡ ended finished = sym is.0 ∙ e in rw (is_over, is.1, l, s, (is.3 is_over).1) refl

pub thin_count : (t : Unthinned) → thin_entry t ≡ Ok tt → (t.count * width ≤ length t.store) × (t.count ≤ most_slots)
unfolding thin_entry
thin_count t e = count_fits t.store t.count (entry_room _ _ _ e)
