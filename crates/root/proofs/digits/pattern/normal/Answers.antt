-- `pattern::normal`: the leading digit and the fraction have 53 digits. Assumes nothing.
use Rattle.std.proofs.Common.{ℕ, ◌+◌, ◌*◌, ◌^◌, ap, ◌∙◌}
use lib.Bits.{or_shifted_r}
use Rattle.root.proofs.digits.Scaling.{normal-sum, rescaled}
use Rattle.root.proofs.digits.pattern.normal.Goals as goal

pub returns : goal.returns
returns c = rescaled (ap (λ (m : ℕ). m * 2 ^ 52 * 2 ^ (c.args.field + 1021)) (or_shifted_r 1 52 c.args.fraction c.requires.2) ∙ normal-sum (2 ^ 52 + c.args.fraction) c.args.field c.requires.0) c.halved.ensures
