-- `fraction_of` is fraction number k. Assumes nothing.
use native.Mathlib.Omega.{arith}
use Rattle.advance.proofs.steps.StepLaws.{last_fraction}
use Rattle.advance.proofs.steps.fraction_of.Goals as goal

pub returns-in_default : goal.returns-in_default
returns-in_default c = last_fraction c.args.k (omega arith)
