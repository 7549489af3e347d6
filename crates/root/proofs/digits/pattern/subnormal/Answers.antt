-- `pattern::subnormal`: with its leading zeros shifted out the fraction has 53 digits. Assumes nothing.
use Rattle.std.proofs.Common.{arith}
use Rattle.root.proofs.digits.Scaling.{zeros_low, shifted-low, shifted-high, subnormal-sum, rescaled}
use Rattle.root.proofs.digits.pattern.subnormal.Goals as goal

pub overflow_sub-zeros : goal.overflow_sub-zeros
overflow_sub-zeros c = omega (arith, zeros_low _ c.requires.0 c.requires.1)

pub halved-requires : goal.halved-requires
halved-requires c = (shifted-low _ c.requires.0 c.requires.1, shifted-high _ c.requires.0 c.requires.1, omega arith)

pub returns : goal.returns
returns c = rescaled (subnormal-sum _ c.requires.0 c.requires.1) (rw c.from.ensures at c.halved.ensures)
