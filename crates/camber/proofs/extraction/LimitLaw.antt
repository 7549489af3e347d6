-- The ending law of extractions: an extraction ends, and an ending other than 14 is the same at larger limits. Assumes nothing.
use mathlib.Core.Path.{◌≡◌, refl, sym, ap, ◌∙◌}
use mathlib.Core.Bool.{Bool}
use mathlib.Core.List.{List, [], ◌∷◌}
use mathlib.Core.Logic.{⊎_elim}
use Prim.Native.Nat.{ℕ, suc, ◌-◌, ◌*◌, ◌≤◌}
use native.Mathlib.Omega.{arith}
use borrow.Author.Tests.{leb-true, le-leb}
use lib.ListN.{length, drop}
use lib.Ieee.{Float}
use Rattle.std.specs.Prelude.{Ok, Err}
use Rattle.errors.specs.Answer.{Answer}
use Rattle.line2.specs.Lines.{reversed_line}
use Rattle.runs.specs.Run.{Ending, ended, spent, unfinished, Final, under_limit, whole}
use Rattle.runs.proofs.LimitLaws.{compared, finishes}
use Rattle.inscribed.specs.Store.{width, slots_within, stored}
use Rattle.inscribed.specs.declared.Inscribed.{Inscribed}
use Rattle.inscribed.specs.Lists.{turned}
use Rattle.refine.specs.Machine.{State, refining, circles_in, End, measure}
use Rattle.refine.specs.Report.{ran, ending_number, called_number, Ends, RunReport, reported}
use Rattle.refine.specs.Law.{EndingLaw}
use Rattle.refine.proofs.LawOfRuns.{not-unfinished}
use Rattle.refine.proofs.MachineLaws.{Part}
use Rattle.halving.specs.Halving.{inscribed_on}
use Rattle.camber.specs.March.{Marched, march_step, march_run, march_entry, start_of, started_run}
use Rattle.camber.proofs.MarchMachine.{march_falls, march_grows}
use Rattle.camber.specs.Extraction.{part_report, second_march, second_half, after_first, first_half, extraction_from, extraction_after, extraction_of}

module _ (limit more : ℕ) (h : limit ≤ more) where
  -- one march, from any count of units on
  march-larger : (ns : List Float) (tol : Float) (slots : ℕ) (s : State) (u : ℕ) → ((march_run ns tol slots (under_limit limit) s u).ending ≡ spent → ⊥)
      → march_run ns tol slots (under_limit more) s u ≡ march_run ns tol slots (under_limit limit) s u
  unfolding whole
  march-larger ns tol slots s u n =
      ⊎_elim (λ e. sym e) (λ k. absurd (n k.0))
      (compared (march_step ns tol slots) Part (march_grows ns tol slots) (under_limit limit) (under_limit more) (λ v e. le-leb limit v (omega (arith, leb-true more v e))) (suc (measure slots s)) s u)

  second_larger : (ns : List Float) (tol : Float) (slots : ℕ) (store : List Float) (k u : ℕ) (a : Answer Inscribed) → ((second_march ns tol slots (under_limit limit) store k u a).ending ≡ spent → ⊥)
      → second_march ns tol slots (under_limit more) store k u a ≡ second_march ns tol slots (under_limit limit) store k u a
  unfolding second_march reported
  second_larger ns tol slots store k u (Err n) f = refl
  second_larger ns tol slots store k u (Ok c) f =
      ap (λ (o : Final State End). part_report k store (reported (drop (k * width) store) o)) (march-larger ns tol (slots - k) (refining [] (c ∷ [])) u f)

  module _ (m : Marched) where
    after_larger : (o : Final State End) (e : Ending End) → ((after_first m (under_limit limit) o e).ending ≡ spent → ⊥) → after_first m (under_limit more) o e ≡ after_first m (under_limit limit) o e
    unfolding after_first second_half
    after_larger o (ended (Ok done)) f =
        second_larger m.section m.tol (slots_within m.slot_limit m.store) (stored (turned (circles_in o.state)) m.store) (length (circles_in o.state) - 1) o.units (inscribed_on m.section m.tol (reversed_line m.line)) f
    after_larger o (ended (Err n)) f = refl
    after_larger o spent f = refl
    after_larger o unfinished f = refl

    first_spent : (c : Inscribed) → (started_run m (under_limit limit) c).ending ≡ spent → (first_half m (under_limit limit) c).ending ≡ spent
    unfolding after_first reported
    first_spent c e = ap (λ (x : Ending End). (after_first m (under_limit limit) (started_run m (under_limit limit) c) x).ending) e ∙ e

    half_larger : (c : Inscribed) → ((first_half m (under_limit limit) c).ending ≡ spent → ⊥) → first_half m (under_limit more) c ≡ first_half m (under_limit limit) c
    half_larger c f =
        ap (λ (o : Final State End). after_first m (under_limit more) o o.ending) (march-larger m.section m.tol (slots_within m.slot_limit m.store) (refining [] (c ∷ [])) 0 (λ e. f (first_spent c e)))
        ∙ after_larger (started_run m (under_limit limit) c) (started_run m (under_limit limit) c).ending f

    from_larger : (a : Answer Inscribed) → ((extraction_from m (under_limit limit) a).ending ≡ spent → ⊥) → extraction_from m (under_limit more) a ≡ extraction_from m (under_limit limit) a
    unfolding extraction_from
    from_larger (Err r) f = refl
    from_larger (Ok c) f = half_larger c f

    extraction_larger : (e : Answer (Unit {0})) → (called_number (extraction_after m (under_limit limit) e) ≡ 14 → ⊥) → extraction_after m (under_limit more) e ≡ extraction_after m (under_limit limit) e
    unfolding extraction_after
    extraction_larger (Err r) f = refl
    extraction_larger (Ok passed) f = ap (λ (x : RunReport). ran x) (from_larger (start_of m) (λ e. f (ap ending_number e)))

-- ---- an extraction ends

march-ends : (ns : List Float) (tol : Float) (slots : ℕ) (full : ℕ → Bool) (s : State) (u : ℕ) → (march_run ns tol slots full s u).ending ≡ unfinished → ⊥
march-ends ns tol slots full s u = finishes (march_step ns tol slots) (measure slots) (march_falls ns tol slots) full s u

module _ (m : Marched) (full : ℕ → Bool) where
  second_ends : (store : List Float) (k u : ℕ) (a : Answer Inscribed) → (second_march m.section m.tol (slots_within m.slot_limit m.store) full store k u a).ending ≡ unfinished → ⊥
  unfolding second_march part_report reported
  second_ends store k u (Err r) = not-unfinished (Err r)
  second_ends store k u (Ok c) = march-ends m.section m.tol (slots_within m.slot_limit m.store - k) full (refining [] (c ∷ [])) u

  first_ends : (o : Final State End) (e : Ending End) → o.ending ≡ e → (e ≡ unfinished → ⊥) → (after_first m full o e).ending ≡ unfinished → ⊥
  unfolding after_first second_half reported
  first_ends o (ended (Ok done)) q n = second_ends _ _ o.units (inscribed_on m.section m.tol (reversed_line m.line))
  first_ends o (ended (Err r)) q n = λ p. n (sym q ∙ p)
  first_ends o spent q n = λ p. n (sym q ∙ p)
  first_ends o unfinished q n = λ p. n refl

  from_ends : (a : Answer Inscribed) → (extraction_from m full a).ending ≡ unfinished → ⊥
  unfolding extraction_from
  from_ends (Err r) = not-unfinished (Err r)
  from_ends (Ok c) = first_ends (started_run m full c) (started_run m full c).ending refl (march-ends m.section m.tol (slots_within m.slot_limit m.store) full (refining [] (c ∷ [])) 0)

  extraction_ends : (e : Answer (Unit {0})) → Ends (extraction_after m full e)
  unfolding extraction_after
  extraction_ends (Err r) = tt
  extraction_ends (Ok passed) = from_ends (start_of m)

pub extraction_law : (m : Marched) (limit : ℕ) → EndingLaw (extraction_of m) limit
extraction_law m limit = record { ends = extraction_ends m (under_limit limit) (march_entry m); larger = λ more h. extraction_larger limit more h m (march_entry m) }
