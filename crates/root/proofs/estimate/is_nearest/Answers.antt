-- `estimate::is_nearest`: the three differences, modulo 2 ^ 64, and the tests that they are small. Assumes nothing.
use Rattle.std.proofs.Common.{◌∙◌, sym, arith, ltb-true, not-le_of_lt}
use lib.Bits.{and_mask}
use Rattle.root.proofs.Exact.{nearest_test}
use Rattle.root.proofs.estimate.is_nearest.Goals.{then-d-lt536870912, else-d-lt536870912}
use Rattle.root.proofs.estimate.is_nearest.Goals as goal

pub returns-then-e-lt268435456 : goal.returns-then-e-lt268435456
returns-then-e-lt268435456 c = λ t. elim c.if-d-lt536870912.branch [
  | then-d-lt536870912 w ↦ nearest_test c.args.q _ c.requires.2 (and_mask c.args.q 26) c.args.a c.requires.0 (omega (arith, c.requires.1)) w.if-d-lt536870912.true (ltb-true _ _ (sym w.value-is ∙ c.if-e-lt268435456.true)) (ltb-true _ _ t)
  | else-d-lt536870912 w ↦ absurd (not-le_of_lt (ltb-true _ _ (sym w.value-is ∙ c.if-e-lt268435456.true)) w.if-d-lt536870912.false)
]
