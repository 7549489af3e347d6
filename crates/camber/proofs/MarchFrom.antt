-- The states of a march's loop. Assumes nothing.
use mathlib.Core.Path.{◌≡◌, refl, sym, ap, ◌∙◌}
use mathlib.Core.List.{List, [], ◌∷◌, ◌++◌}
use Rattle.std.specs.Prelude.{Err}
use Prim.Native.Nat.{ℕ, suc, ◌+◌, ◌-◌, ◌*◌, ◌≤◌, ◌<◌}
use native.Mathlib.Omega.{arith}
use lib.ListN.{length, length-append}
use lib.Ieee.{Float}
use Rattle.errors.specs.Lists.{last_of}
use Rattle.runs.specs.Run.{Ending, ended, spent, Final, final_of, under_limit, whole}
use Rattle.runs.proofs.RunLaws.{whole_ends, whole_goes}
use Rattle.runs.proofs.LimitLaws.{part_grows}
use borrow.Author.Tests.{le-leb, lt-leb}
use Rattle.inscribed.specs.Code.{with_circle}
use Rattle.refine.proofs.MachineLaws.{Part}
use Rattle.camber.proofs.MarchMachine.{march_falls, march_grows}
use Rattle.errors.specs.declared.Refusal.TheVariants.{StoreFull}
use Rattle.inscribed.specs.Store.{width, circle_at, circles_of, all_numbers, stored}
use Rattle.inscribed.specs.declared.Inscribed.{Inscribed}
use Rattle.inscribed.proofs.StoreLaws.{length-circles, circles_of-stored, stored-again, stored_push, stored_longer}
use Rattle.refine.specs.Machine.{State, refining, advancing, circles_in, End, finished, measure, refine_move, refine_step, refine_run}
use Rattle.refine.specs.Code.{waiting_in, due_in}
use Rattle.refine.specs.Report.{RunReport, reported, listed_end, listed_run}
use Rattle.refine.specs.declared.Run.{Run}
use Rattle.refine.specs.declared.RunEnd.{RunEnd}
use Rattle.refine.proofs.MoveLaws.{refine_falls}
use Rattle.refine.proofs.RefineLaws.{last_stored}
use Rattle.refine.proofs.RefinedLaws.{refined_fits, refined_units, refined_part, refined_done, refined_report}
use Rattle.camber.specs.March.{march_step, march_run}
use Rattle.camber.specs.Code.{state_at, Idle}
use Rattle.advance.specs.Code.{ending, out_of_units, going, advance_outcome, listed_advanced}
use Rattle.advance.specs.declared.Advanced.{Advanced}
use Rattle.camber.proofs.MarchLoop.{EndedWith, Led, advance_led, refined_on, refined_ends, refined_due}

-- the oldest of those that wait
oldest_of : (b : Inscribed) (ws : List Inscribed) → (newer : List Inscribed) × (o : Inscribed) × (b ∷ ws ≡ newer ++ (o ∷ []))
oldest_of b [] = ([], b, refl)
oldest_of b (c ∷ ws) = let k = oldest_of c ws in (b ∷ k.0, k.1, ap (λ (x : List Inscribed). b ∷ x) k.2)

module _ (ns : List Float) (tol : Float) (slots limit : ℕ) (old : List Float) (target : Final State End) where
  -- the loop's top
  pub record Top (store : List Float) (n : ℕ) (ws : List Inscribed) (k u : ℕ) : Type 0 where
    pub some : 0 < n
    pub fits : n ≤ slots
    pub within : u ≤ limit
    pub due : k < 4
    pub idle : Idle ws k
    pub holds : store ≡ stored (circles_of store n) old
    pub left : march_run ns tol slots (under_limit limit) (state_at (circles_of store n) ws k) u ≡ target

  -- none waits
  pub record Ready (store : List Float) (n k u : ℕ) : Type 0 where
    pub first : Inscribed
    pub others : List Inscribed
    pub counted : n ≡ suc (length others)
    pub fits : n ≤ slots
    pub within : u ≤ limit
    pub due : k < 4
    pub holds : store ≡ stored (first ∷ others) old
    pub left : march_run ns tol slots (under_limit limit) (advancing (first ∷ others) k) u ≡ target

  ready_of : (xs : List Inscribed) (store : List Float) (n k u : ℕ) → 0 < n → n ≤ slots → u ≤ limit → k < 4 → n ≡ length xs → store ≡ stored xs old → march_run ns tol slots (under_limit limit) (advancing xs k) u ≡ target → Ready store n k u
  ready_of [] store n k u s f w d c h l = absurd (omega (arith, s, c))
  ready_of (x ∷ xs) store n k u s f w d c h l = record { first = x; others = xs; counted = c; fits = f; within = w; due = d; holds = h; left = l }

  module _ (store : List Float) (n k u : ℕ) (ws : List Inscribed) (t : Top store n ws k u) (r : Run (Unit {0})) (after : List Float)
      (is : listed_run r after ≡ reported store (refine_run ns tol slots (under_limit limit) (circles_of store n) ws u)) where
    abbrev cs : List Inscribed
    cs = circles_of store n

    fits_list : length cs ≤ slots
    fits_list = omega (arith, length-circles store 0 n, t.fits)

    abbrev refined : Final State End
    refined = refine_run ns tol slots (under_limit limit) cs ws u

    -- the report over the store that the march began with
    over_old : listed_run r after ≡ reported old refined
    over_old = is ∙ ap (λ (x : List Float). reported x refined) t.holds ∙ refined_report ns tol slots limit old cs ws u fits_list t.within

    ending_is : listed_end r.end ≡ refined.ending
    unfolding reported
    ending_is = ap (λ (x : RunReport). x.ending) over_old

    -- where none waits it is finished
    finished_at_once : ws ≡ [] → listed_end r.end ≡ ended finished
    unfolding refine_step
    finished_at_once e =
        ending_is ∙ rw e (ap (λ (o : Final State End). o.ending) (whole_ends (refine_step ns tol slots) (measure slots) (refine_falls ns tol slots) (under_limit limit) (refining cs []) u finished refl))

    -- while any waits
    same_march : (listed_end r.end ≡ ended finished → ⊥) → target ≡ refined
    unfolding refine_step
    same_march f = go ws refl t.left
      where
        go : (vs : List Inscribed) → vs ≡ ws → march_run ns tol slots (under_limit limit) (state_at cs vs k) u ≡ target → target ≡ refined
        go [] e l = absurd (f (finished_at_once (sym e)))
        go (b ∷ vs) e l = sym l ∙ rw e (refined_ends ns tol slots limit cs ws u fits_list t.within (λ p. f (ending_is ∙ p)))

    -- it ends as the refinement does
    pub top_ends : (listed_end r.end ≡ ended finished → ⊥) → listed_run r after ≡ reported old target
    top_ends f = over_old ∙ ap (λ (o : Final State End). reported old o) (sym (same_march f))

    pub top_due : (listed_end r.end ≡ ended finished → ⊥) → due_in target.state ≡ 0
    top_due f = ap (λ (o : Final State End). due_in o.state) (same_march f) ∙ refined_due ns tol slots limit cs ws u fits_list t.within

    pub top_waits : (listed_end r.end ≡ ended finished → ⊥) → waiting_in target.state ≡ waiting_in refined.state
    top_waits f = ap (λ (o : Final State End). waiting_in o.state) (same_march f)

    -- it was advancing where none waits, so that a refinement that isn't finished had one that waits, and no fraction was due
    pub was_idle : (listed_end r.end ≡ ended finished → ⊥) → k ≡ 0
    unfolding refine_step
    was_idle f = go ws refl t.idle
      where
        go : (vs : List Inscribed) → vs ≡ ws → Idle vs k → k ≡ 0
        go [] e l = absurd (f (finished_at_once (sym e)))
        go (b ∷ vs) e l = l

    module _ (e : listed_end r.end ≡ ended finished) where
      abbrev ds : List Inscribed
      ds = circles_in refined.state

      count_is : r.count ≡ length ds
      unfolding reported
      count_is = ap (λ (x : RunReport). x.count) over_old

      units_is : r.units ≡ refined.units
      unfolding reported
      units_is = ap (λ (x : RunReport). x.units) over_old

      store_is : after ≡ stored ds old
      unfolding reported
      store_is = ap (λ (x : RunReport). x.store) over_old

      refined_ended : refined.ending ≡ ended finished
      refined_ended = sym ending_is ∙ e

      -- the list has grown where any waited
      pub grown : (b : Inscribed) (vs : List Inscribed) → b ∷ vs ≡ ws → n < r.count
      grown b vs p = let o = oldest_of b vs in
          omega (arith, count_is, length-circles store 0 n, (refined_done ns tol slots limit old cs ws u fits_list t.within o.0 o.1 (sym p ∙ o.2) refined_ended).grown)

      more : n ≤ r.count
      more = let p = refined_part ns tol slots limit old cs ws u fits_list t.within in omega (arith, count_is, length-circles store 0 n, ap length p.1, length-append cs p.0)

      on : march_run ns tol slots (under_limit limit) (advancing ds k) r.units ≡ target
      unfolding refine_step
      on = rw units_is (go ws refl t.left t.idle)
        where
          go : (vs : List Inscribed) → vs ≡ ws → march_run ns tol slots (under_limit limit) (state_at cs vs k) u ≡ target → Idle vs k → march_run ns tol slots (under_limit limit) (advancing ds k) refined.units ≡ target
          go [] p l i =
              let w = whole_ends (refine_step ns tol slots) (measure slots) (refine_falls ns tol slots) (under_limit limit) (refining cs []) u finished refl in
              rw (← p, w) l
          go (b ∷ vs) p l i = let o = oldest_of b vs in rw i (sym (refined_on ns tol slots limit cs ws u fits_list t.within o.0 o.1 (sym p ∙ o.2) refined_ended) ∙ ap (λ (x : List Inscribed). march_run ns tol slots (under_limit limit) (refining cs x) u) (sym p) ∙ l)

      counted_in : r.count ≤ slots
      counted_in = omega (arith, count_is, refined_fits ns tol slots limit old cs ws u fits_list t.within)

      -- the measure falls: each turn but one that began with none waiting accepts a circle, and in the next one waits
      pub top_falls : (slots - r.count) * 2 < (slots - n) * 2 + (1 - length ws)
      top_falls = go ws refl
        where
          go : (vs : List Inscribed) → vs ≡ ws → (slots - r.count) * 2 < (slots - n) * 2 + (1 - length vs)
          go [] p = omega (arith, more, counted_in)
          go (b ∷ vs) p = omega (arith, grown b vs p, counted_in)

      pub top_ready : Ready after r.count k r.units
      top_ready = ready_of ds after r.count k r.units (omega (arith, more, t.some)) (omega (arith, count_is, refined_fits ns tol slots limit old cs ws u fits_list t.within))
          (omega (arith, units_is, refined_units ns tol slots limit old cs ws u fits_list t.within)) t.due count_is store_is on

  -- ---- an advance

  module _ (store : List Float) (n k u : ℕ) (is : Ready store n k u) where
    pub ready_last : circle_at store (n - 1) ≡ last_of is.first is.others
    ready_last = last_stored store old n (is.first ∷ is.others) is.first is.others is.holds refl (sym is.counted)

    module _ (a : Advanced) (said : listed_advanced a ≡ advance_outcome ns tol (circle_at store (n - 1)) k (under_limit limit) u) where
      led : Led ns tol slots limit (is.first ∷ is.others) target (listed_advanced a)
      led =
          let same = said ∙ ap (λ (c : Inscribed). advance_outcome ns tol c k (under_limit limit) u) ready_last in
          rw (same, ← is.left) (advance_led ns tol slots limit is.first is.others k is.due u)

      pub ready_ends : (e : End) (v : ℕ) → listed_advanced a ≡ ending e v → ◌≡◌ {A = RunReport} (record { ending = ended e; count = n; units = v; store = store }) (reported old target)
      unfolding reported
      ready_ends e v q = let l : EndedWith ns tol slots limit (is.first ∷ is.others) e v target = rw q at led in rw (l.ends_so, l.holds_these, l.after, is.holds, is.counted) refl

      pub ready_spent : (j v : ℕ) → listed_advanced a ≡ out_of_units j v → target ≡ final_of spent (advancing (is.first ∷ is.others) j) v
      ready_spent j v q = rw q at led

      pub spent_report : (j v : ℕ) → listed_advanced a ≡ out_of_units j v → ◌≡◌ {A = RunReport} (record { ending = spent; count = n; units = v; store = store }) (reported old target)
      unfolding reported
      spent_report j v q = rw (ready_spent j v q, is.holds, is.counted) refl

      pub ready_next : (d : Inscribed) (v : ℕ) → listed_advanced a ≡ going d v → v ≤ limit → Top store n (d ∷ []) 0 v
      ready_next d v q h =
          let same : circles_of store n ≡ is.first ∷ is.others = rw (is.holds, is.counted) (circles_of-stored (is.first ∷ is.others) old) in
          let l : target ≡ march_run ns tol slots (under_limit limit) (refining (is.first ∷ is.others) (d ∷ [])) v = rw q at led in
          record { some = omega (arith, is.counted); fits = is.fits; within = h; due = omega arith; idle = refl; holds = rw same is.holds; left = rw same (sym l) }

pub top_start : (ns : List Float) (tol : Float) (slots limit : ℕ) (old : List Float) (n : ℕ) (ws : List Inscribed) (k u : ℕ) → 0 < n → n ≤ slots → slots * width ≤ length old → u ≤ limit → k < 4 → Idle ws k
    → Top ns tol slots limit old (march_run ns tol slots (under_limit limit) (state_at (circles_of old n) ws k) u) old n ws k u
top_start ns tol slots limit old n ws k u s f r w d i = record { some = s; fits = f; within = w; due = d; idle = i; holds = sym (stored-again old n (omega arith)); left = refl }

-- an ending that isn't "finished"
pub other-unfinished : (e : RunEnd (Unit {0})) → ((x : Unit {0}) → e ≡ RunEnd.Finished x → ⊥) → listed_end e ≡ ended finished → ⊥
other-unfinished (RunEnd.Finished done) f q = f done refl
other-unfinished RunEnd.Spent f q = let z : ◌≡◌ {A = ℕ} 0 1 = cc in absurd (omega arith)
other-unfinished (RunEnd.Refused r) f q = let z : ◌≡◌ {A = ℕ} 0 1 = cc in absurd (omega arith)

pub finished-listed : (e : RunEnd (Unit {0})) → e ≡ RunEnd.Finished tt → listed_end e ≡ ended finished
finished-listed e p = ap listed_end p

-- ---- a march's first circle

abbrev report_as : Final State End → List Float → RunReport
report_as o x = record { ending = o.ending; count = length (circles_in o.state); units = o.units; store = x }

module _ (ns : List Float) (tol : Float) (slots limit : ℕ) (old : List Float) (c : Inscribed) (u : ℕ) where
  abbrev whole_march : Final State End
  whole_march = march_run ns tol slots (under_limit limit) (refining [] (c ∷ [])) u

  pub no_slot : slots ≡ 0 → ◌≡◌ {A = RunReport} (record { ending = ended (Err StoreFull); count = 0; units = u; store = old }) (reported old whole_march)
  unfolding march_step refine_move reported stored all_numbers
  no_slot z = rw (whole_ends (march_step ns tol slots) (measure slots) (march_falls ns tol slots) (under_limit limit) (refining [] (c ∷ [])) u (Err StoreFull) (rw (le-leb slots 0 (omega arith)) refl)) refl

  module _ (some : slots ≡ 0 → ⊥) where
    first_accepted : whole_march ≡ march_run ns tol slots (under_limit limit) (advancing (c ∷ []) 0) u
    unfolding march_step refine_move
    first_accepted =
        whole_goes (march_step ns tol slots) (measure slots) (march_falls ns tol slots) (under_limit limit) (refining [] (c ∷ [])) u (refining (c ∷ []) []) (rw (lt-leb slots 0 (omega arith)) refl)
        ∙ whole_goes (march_step ns tol slots) (measure slots) (march_falls ns tol slots) (under_limit limit) (refining (c ∷ []) []) u (advancing (c ∷ []) 0) refl

    one_stored : with_circle old 0 c ≡ stored (c ∷ []) old
    one_stored = let e : stored [] old ≡ old = (unfold stored all_numbers in refl) in ap (λ (x : List Float). with_circle x 0 c) (sym e) ∙ stored_push [] old c

    held : circles_of (with_circle old 0 c) 1 ≡ c ∷ []
    held = ap (λ (x : List Float). circles_of x 1) one_stored ∙ circles_of-stored (c ∷ []) old

    -- the march from its first circle on
    pub first_march : march_run ns tol slots (under_limit limit) (state_at (circles_of (with_circle old 0 c) 1) [] 0) u ≡ whole_march
    first_march = ap (λ (x : List Inscribed). march_run ns tol slots (under_limit limit) (advancing x 0) u) held ∙ sym first_accepted

    pub first_paused : (e : Ending End) (ws : List Inscribed) (k : ℕ)
        → (e ≡ spent → (ws ≡ waiting_in (march_run ns tol slots (under_limit limit) (state_at (circles_of (with_circle old 0 c) 1) [] 0) u).state) × (k ≡ due_in (march_run ns tol slots (under_limit limit) (state_at (circles_of (with_circle old 0 c) 1) [] 0) u).state))
        → e ≡ spent → (ws ≡ waiting_in whole_march.state) × (k ≡ due_in whole_march.state)
    first_paused e ws k h = rw first_march at h

    pub first_report : (r : Run (Unit {0})) (after : List Float) → listed_run r after ≡ reported (with_circle old 0 c) (march_run ns tol slots (under_limit limit) (state_at (circles_of (with_circle old 0 c) 1) [] 0) u) → listed_run r after ≡ reported old whole_march
    unfolding reported whole
    first_report r after is =
        let o = march_run ns tol slots (under_limit limit) (advancing (c ∷ []) 0) u in
        let p = part_grows (march_step ns tol slots) Part (march_grows ns tol slots) (under_limit limit) (suc (measure slots (advancing (c ∷ []) 0))) (advancing (c ∷ []) 0) u in
        let longer : stored (circles_in o.state) (stored (c ∷ []) old) ≡ stored (circles_in o.state) old = stored_longer (circles_in o.state) (c ∷ []) old (omega (arith, ap length p.1, length-append (c ∷ []) p.0)) in
        (rw (held, one_stored) at is)
        ∙ ap (λ (x : List Float). report_as o x) longer
        ∙ ap (λ (q : Final State End). reported old q) (sym first_accepted)
