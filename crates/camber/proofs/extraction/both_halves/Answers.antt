-- `both_halves` marches in both directions. Assumes nothing.
use mathlib.Core.Path.{◌∙◌}
use native.Mathlib.Omega.{arith}
use Rattle.std.proofs.Common.{rules}
use Rattle.camber.proofs.MarchFrom.{other-unfinished, finished-listed}
use Rattle.camber.proofs.PartLaws.{marched_units, told_in}
use Rattle.camber.proofs.extraction.Laws.{first_over, first_done}
use Rattle.camber.proofs.extraction.both_halves.Goals as goal

pub invariant_of-units : goal.invariant_of-units
invariant_of-units c = record { within = marched_units _ _ _ _ _ _ c.march_from-first.result _ _ (rw (c.none_taken.ensures.0, c.none_taken.ensures.1) at c.march_from-first.ensures.0) (omega arith) }

pub returns : goal.returns
returns c = λ section_tol.
    told_in c.second_half.result _ _ _ (search rules)
    (rw (c.march_from-first.ensures.1.1, c.march_from-first.ensures.2, c.new-circles.ensures.held.1) at c.second_half.ensures.run
    ∙ first_done _ _ _ c.march_from-first.result _ (rw (c.new-circles.ensures.held.0, c.new-circles.ensures.held.1, c.none_taken.ensures.0, c.none_taken.ensures.1) at c.march_from-first.ensures.0) (finished-listed c.march_from-first.result.end c.in-Finished.is))

pub returns-in_default : goal.returns-in_default
returns-in_default c = λ section_tol. told_in c.march_from-first.result _ _ _ (search rules) (first_over _ _ _ c.march_from-first.result _ (rw (c.new-circles.ensures.held.0, c.new-circles.ensures.held.1, c.none_taken.ensures.0, c.none_taken.ensures.1) at c.march_from-first.ensures.0) (other-unfinished c.march_from-first.result.end c.in_default.not-Finished))
