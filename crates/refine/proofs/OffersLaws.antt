-- The loop over the circles of a list: a refinement of the next one, and what is left of the list gives the whole. Assumes nothing.
use mathlib.Core.Path.{◌≡◌, refl, sym, ap, ◌∙◌}
use mathlib.Core.List.{List, [], ◌∷◌}
use Rattle.std.specs.Prelude.{Ok, Err}
use mathlib.Core.Bool.{false, ◌||◌}
use borrow.Author.Tests.{ltb-false}
use Rattle.curve2.proofs.Laws.{entry_room, or_left, or_right}
use Prim.Native.Nat.{ℕ, suc, ◌+◌, ◌-◌, ◌≤◌, ◌<◌}
use native.Mathlib.Omega.{arith}
use lib.ListN.{length}
use lib.Ieee.{Float}
use Rattle.runs.specs.Run.{Ending, ended, spent, unfinished, Final, under_limit}
use Rattle.inscribed.specs.Store.{slots, slots_within, circle_at, circles_from, circles_of, stored, bad_store_count, bad_count_within}
use Rattle.inscribed.specs.declared.Inscribed.{Inscribed}
use Rattle.inscribed.proofs.StoreLaws.{length-circles, circles_of-stored}
use Rattle.refine.specs.Machine.{State, circles_in, End, finished, refine_run}
use Rattle.refine.specs.Report.{RunReport, reported, listed_end, listed_run}
use Rattle.refine.specs.Offers.{Offers, offers_entry, after_one, offers_run}
use Rattle.refine.specs.declared.Run.{Run}
use Rattle.refine.specs.declared.RunEnd.{RunEnd}
use Rattle.refine.proofs.RefinedLaws.{refined_fits, refined_units, refined_report}

-- a refinement that isn't finished is how all ends
pub stops_there : (go : List Inscribed → ℕ → Final State End) (o : Final State End) (e : Ending End) → (e ≡ ended finished → ⊥) → after_one go o e ≡ o
stops_there go o (ended (Ok done)) f = absurd (f refl)
stops_there go o (ended (Err r)) f = refl
stops_there go o spent f = refl
stops_there go o unfinished f = refl

-- an ending that isn't finished
pub other-unfinished : (e : RunEnd (Unit {0})) → ((x : Unit {0}) → e ≡ RunEnd.Finished x → ⊥) → listed_end e ≡ ended finished → ⊥
other-unfinished (RunEnd.Finished done) f q = f done refl
other-unfinished RunEnd.Spent f q = let z : ◌≡◌ {A = ℕ} 0 1 = cc in absurd (omega arith)
other-unfinished (RunEnd.Refused r) f q = let z : ◌≡◌ {A = ℕ} 0 1 = cc in absurd (omega arith)

module _ (ns : List Float) (tol : Float) (slots limit : ℕ) (old : List Float) (target : RunReport) where
  -- with n circles in the store, u units taken and so many circles still to be offered
  pub record Offering (store : List Float) (n u : ℕ) (rest : List Inscribed) : Type 0 where
    pub fits : n ≤ slots
    pub within : u ≤ limit
    pub holds : store ≡ stored (circles_of store n) old
    pub left : reported old (offers_run ns tol slots (under_limit limit) (circles_of store n) rest u) ≡ target

  -- none is left
  pub all_over : (store : List Float) (n u : ℕ) → Offering store n u [] → ◌≡◌ {A = RunReport} (record { ending = ended finished; count = n; units = u; store = store }) target
  unfolding offers_run reported
  all_over store n u w = (rw (length-circles store 0 n, ← w.holds) refl) ∙ w.left

  module _ (store : List Float) (n u : ℕ) (b : Inscribed) (bs : List Inscribed) (w : Offering store n u (b ∷ bs)) (r : Run (Unit {0})) (after : List Float)
      (is : listed_run r after ≡ reported store (refine_run ns tol slots (under_limit limit) (circles_of store n) (b ∷ []) u)) where
    abbrev cs : List Inscribed
    cs = circles_of store n

    fits_list : length cs ≤ slots
    fits_list = omega (arith, length-circles store 0 n, w.fits)

    abbrev refined : Final State End
    refined = refine_run ns tol slots (under_limit limit) cs (b ∷ []) u

    abbrev go : List Inscribed → ℕ → Final State End
    go ds v = offers_run ns tol slots (under_limit limit) ds bs v

    -- the report over the store that all began with
    over_old : listed_run r after ≡ reported old refined
    over_old = is ∙ ap (λ (x : List Float). reported x refined) w.holds ∙ refined_report ns tol slots limit old cs (b ∷ []) u fits_list w.within

    ending_is : listed_end r.end ≡ refined.ending
    unfolding reported
    ending_is = ap (λ (x : RunReport). x.ending) over_old

    after_is : reported old (after_one go refined refined.ending) ≡ target
    unfolding offers_run
    after_is = w.left

    pub one_ends : (listed_end r.end ≡ ended finished → ⊥) → listed_run r after ≡ target
    one_ends f = over_old ∙ ap (λ (x : Final State End). reported old x) (sym (stops_there go refined refined.ending (λ e. f (ending_is ∙ e)))) ∙ after_is

    module _ (e : listed_end r.end ≡ ended finished) where
      abbrev ds : List Inscribed
      ds = circles_in refined.state

      count_is : r.count ≡ length ds
      unfolding reported
      count_is = ap (λ (x : RunReport). x.count) over_old

      units_is : r.units ≡ refined.units
      unfolding reported
      units_is = ap (λ (x : RunReport). x.units) over_old

      store_is : after ≡ stored ds old
      unfolding reported
      store_is = ap (λ (x : RunReport). x.store) over_old

      held : circles_of after r.count ≡ ds
      held = rw (store_is, count_is) (circles_of-stored ds old)

      pub one_goes : Offering after r.count r.units bs
      one_goes = record {
        fits = omega (arith, count_is, refined_fits ns tol slots limit old cs (b ∷ []) u fits_list w.within);
        within = omega (arith, units_is, refined_units ns tol slots limit old cs (b ∷ []) u fits_list w.within);
        holds = rw held store_is;
        left = rw (held, units_is) (ap (λ (x : Ending End). reported old (after_one go refined x)) (sym (sym ending_is ∙ e)) ∙ after_is);
      }

pub offering_start : (ns : List Float) (tol : Float) (slots limit : ℕ) (old : List Float) (n u : ℕ) (bs : List Inscribed) → n ≤ slots → u ≤ limit → stored (circles_of old n) old ≡ old
    → Offering ns tol slots limit old (reported old (offers_run ns tol slots (under_limit limit) (circles_of old n) bs u)) old n u bs
offering_start ns tol slots limit old n u bs f h s = record { fits = f; within = h; holds = sym s; left = refl }

-- the circle at k is the next of those from k to the end n; behind the last there is none
pub next_of : (ns : List Float) (k n : ℕ) → k < n → circles_from ns k (n - k) ≡ circle_at ns k ∷ circles_from ns (k + 1) (n - (k + 1))
unfolding circles_from
next_of ns k n h =
    let e : n - k ≡ suc (n - (k + 1)) = omega arith in
    let f : k + 1 ≡ suc k = omega arith in
    rw (e, f) refl

pub none_left : (ns : List Float) (k n : ℕ) → n ≤ k → circles_from ns k (n - k) ≡ []
unfolding circles_from
none_left ns k n h = let e : n - k ≡ 0 = omega arith in rw e refl

-- ---- what the entry tests say of both stores

module _ (o : Offers) (e : offers_entry o ≡ Ok tt) where
  room : bad_count_within o.slot_limit o.store o.count || bad_store_count o.offered o.offered_count ≡ false
  unfolding offers_entry
  room = entry_room _ _ _ e

  pub offers_count : o.count ≤ slots_within o.slot_limit o.store
  offers_count = ltb-false (slots_within o.slot_limit o.store) o.count (or_left (bad_count_within o.slot_limit o.store o.count) (bad_store_count o.offered o.offered_count) room)

  pub offers_listed : o.offered_count ≤ slots o.offered
  offers_listed = ltb-false (slots o.offered) o.offered_count (or_right (bad_count_within o.slot_limit o.store o.count) (bad_store_count o.offered o.offered_count) room)
