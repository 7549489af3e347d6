-- "march, turn order and contacts, drop the last, march from the reversed line". Assumes nothing.
use Rattle.std.specs.Prelude.{Bool, List, [], ◌∷◌, ◌++◌, ℕ, ◌+◌, ◌-◌, ◌*◌, length, take, drop, Float, Ok, Err}
use Rattle.errors.specs.Answer.{Answer}
use Rattle.line2.specs.Lines.{reversed_line}
use Rattle.line2.specs.declared.Line2.{Line2}
use Rattle.runs.specs.Run.{Ending, ended, spent, unfinished, Final, under_limit}
use Rattle.inscribed.specs.Store.{width, slots_within, stored}
use Rattle.inscribed.specs.Lists.{turned}
use Rattle.inscribed.specs.declared.Inscribed.{Inscribed}
use Rattle.halving.specs.Halving.{inscribed_on}
use Rattle.refine.specs.Machine.{State, refining, circles_in, End}
use Rattle.refine.specs.Report.{Called, refused_on_entry, ran, RunReport, reported}
use Rattle.camber.specs.March.{march_run, Marched, march_entry, start_of, started_run, not_started}

-- ---- the second half

-- "into the part of the store that starts behind the first": what a run in the part behind k circles leaves of the whole
unfoldable pub part_report : ℕ → List Float → RunReport → RunReport
part_report k store r = record { ending = r.ending; count = k + r.count; units = r.units; store = take (k * width) store ++ r.store }

-- the second march, "with the slots the whole has left"; refused before it holds a circle, it leaves the turned order
unfoldable pub second_march : List Float → Float → ℕ → (ℕ → Bool) → List Float → ℕ → ℕ → Answer Inscribed → RunReport
unfolding part_report
second_march ns tol slots full store k u (Err r) = record { ending = ended (Err r); count = k; units = u; store = store }
second_march ns tol slots full store k u (Ok c) = part_report k store (reported (drop (k * width) store) (march_run ns tol (slots - k) full (refining [] (c ∷ [])) u))

-- after a finished first march of the circles cs, whose units are u: "the dropped slot keeps its numbers until overwritten"
unfoldable pub second_half : List Float → Float → Line2 → ℕ → (ℕ → Bool) → List Float → List Inscribed → ℕ → RunReport
unfolding second_march
second_half ns tol l slots full old cs u = second_march ns tol slots full (stored (turned cs) old) (length cs - 1) u (inscribed_on ns tol (reversed_line l))

-- ---- both halves

-- "Refused in the first half it leaves the marched order"
unfoldable pub after_first : Marched → (ℕ → Bool) → Final State End → Ending End → RunReport
unfolding second_half
after_first m full o (ended (Ok done)) = second_half m.section m.tol m.line (slots_within m.slot_limit m.store) full m.store (circles_in o.state) o.units
after_first m full o (ended (Err r)) = reported m.store o
after_first m full o spent = reported m.store o
after_first m full o unfinished = reported m.store o

abbrev pub first_half : Marched → (ℕ → Bool) → Inscribed → RunReport
first_half m full c = let o = started_run m full c in after_first m full o o.ending

unfoldable pub extraction_from : Marched → (ℕ → Bool) → Answer Inscribed → RunReport
unfolding after_first
extraction_from m full (Err r) = not_started m r
extraction_from m full (Ok c) = first_half m full c

unfoldable pub extraction_after : Marched → (ℕ → Bool) → Answer (Unit {0}) → Called (Unit {0})
unfolding extraction_from
extraction_after m full (Err r) = refused_on_entry r m.store
extraction_after m full (Ok passed) = ran (extraction_from m full (start_of m))

-- "one limit and one count over both halves"
abbrev pub extraction_of : Marched → ℕ → Called (Unit {0})
extraction_of m limit = extraction_after m (under_limit limit) (march_entry m)
