-- The fit: the order turned before it and turned back after it. Assumes nothing.
use mathlib.Core.Path.{◌≡◌, sym, ap, ◌∙◌}
use mathlib.Core.Bool.{Bool}
use mathlib.Core.List.{List}
use Prim.Native.Nat.{ℕ, ◌≤◌}
use native.Mathlib.Omega.{arith}
use lib.ListN.{length}
use lib.Ieee.{Float}
use Rattle.std.specs.Prelude.{Ok, Err}
use Rattle.errors.specs.Answer.{Answer}
use Rattle.runs.specs.Run.{under_limit}
use Rattle.inscribed.specs.Store.{circles_of, stored}
use Rattle.inscribed.proofs.StoreLaws.{length-circles, stored_longer, circles_of-stored}
use Rattle.inscribed.specs.declared.Inscribed.{Inscribed}
use Rattle.refine.specs.declared.Run.{Run}
use Rattle.gap.specs.Rounds.{most_rounds, Fit, first_progress}
use Rattle.gap.proofs.RoundsLaws.{FitTold, Grown, rounds_grown}
use Rattle.refine.specs.Report.{listed_run}
use Rattle.points.specs.declared.Point2.{Point2}
use Rattle.edges.specs.Edges.{end_last, fit_start, fit_from, fit_reported, fitted}
use Rattle.edges.specs.declared.fitting.Start.{Start}
use Rattle.edges.proofs.EndLaws.{length-end_last}

-- ---- the order turned, and turned back

module _ (ns : List Float) (section_tol tol : Float) (slots limit : ℕ) (front : Bool) (old : List Float) (count : ℕ) (fits : count ≤ slots) where
  abbrev ds : List Inscribed
  ds = end_last front (circles_of old count)

  length_ds : length ds ≡ count
  length_ds = length-end_last front (circles_of old count) ∙ length-circles old 0 count

  abbrev whole : Fit
  whole = fit_from ns tol slots (under_limit limit) ds (fit_start ns section_tol ds)

  from_grown : (a : Answer Start) → Grown slots ds (fit_from ns tol slots (under_limit limit) ds a)
  unfolding fit_from
  from_grown (Err n) = record { low = omega arith; high = omega (arith, length_ds, fits) }
  from_grown (Ok s) = rounds_grown ns tol slots limit s.gap most_rounds (first_progress s.point ds) (omega (arith, length_ds, fits)) (omega arith)

  grown : Grown slots ds whole
  grown = from_grown (fit_start ns section_tol ds)

  -- the store turned, then fitted, then turned back
  module _ (turned : List Float) (is_turned : turned ≡ stored ds old) where
    held : circles_of turned count ≡ ds
    held = ap (λ (x : List Float). circles_of x count) is_turned ∙ ap (λ (k : ℕ). circles_of (stored ds old) k) (sym length_ds) ∙ circles_of-stored ds old

    module _ (after : List Float) (r : Run Point2)
        (is : FitTold (fit_from ns tol slots (under_limit limit) (circles_of turned count) (fit_start ns section_tol (circles_of turned count))) turned after r) where
      is_whole : FitTold whole turned after r
      is_whole = rw held at is

      turned-back : stored (end_last front (circles_of after r.count)) after ≡ stored (end_last front whole.circles) old
      turned-back =
          let e : circles_of after r.count ≡ whole.circles = ap (λ (f : Fit). f.circles) is_whole.returned in
          let l = length-end_last front whole.circles in
          rw e
          (ap (λ (x : List Float). stored (end_last front whole.circles) x) is_whole.left
          ∙ stored_longer (end_last front whole.circles) whole.circles turned (omega (arith, l))
          ∙ ap (λ (x : List Float). stored (end_last front whole.circles) x) is_turned
          ∙ stored_longer (end_last front whole.circles) ds old (omega (arith, l, grown.low)))

      pub fit_whole : listed_run r (stored (end_last front (circles_of after r.count)) after) ≡ fitted ns section_tol tol slots (under_limit limit) front old count
      unfolding fitted fit_reported
      fit_whole =
          let e = is_whole.returned in
          let c : r.count ≡ length whole.circles = sym (length-circles after 0 r.count) ∙ ap (λ (f : Fit). length f.circles) e in
          rw (turned-back, c, ap (λ (f : Fit). f.ending) e, ap (λ (f : Fit). f.units) e)
