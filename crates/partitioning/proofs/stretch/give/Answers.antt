-- `give` finds the ends, refuses an empty stretch, and walks. Assumes nothing.
use Rattle.std.proofs.Common.{sym, ◌∙◌}
use Rattle.errors.proofs.Laws.{handed_on}
use Rattle.partitioning.proofs.StretchLaws.{given_no_ends, given_empty, given-ends, given_walkable}
use Rattle.partitioning.proofs.stretch.give.Goals as goal

pub returns-in_err-ends : goal.returns-in_err-ends
returns-in_err-ends c = rw (handed_on c.from_residual.result _ c.from_residual.ensures.1) (given_no_ends _ _ _ _ _ (sym c.in_err-ends.ensures))

pub returns-then-is_empty : goal.returns-then-is_empty
returns-then-is_empty c = given_empty _ _ _ _ _ (sym c.in_ok-ends.ensures) (sym c.is_empty.ensures ∙ c.if-is_empty.true)

pub invariant_of-walk : goal.invariant_of-walk
invariant_of-walk c = record { walkable = given_walkable _ _ _ _ _ (sym c.in_ok-ends.ensures) c.requires.section c.well_formed.1.0.1 c.well_formed.1.1.0.1 (sym c.is_empty.ensures ∙ c.if-is_empty.false) }

pub returns : goal.returns
returns c = rw (← (given-ends _ _ _ _ _ (sym c.in_ok-ends.ensures) (sym c.is_empty.ensures ∙ c.if-is_empty.false))) c.give_enough.ensures
