use native.Mathlib.Omega.{arith}
use Rattle.std.proofs.Common.{rules}
use Rattle.inscribed.proofs.MeasureLaws.{average_is, sum_refused, sum_goes, sum_over}
use Rattle.inscribed.proofs.checked.CirclesInUse.average_spacing.Goals as goal

pub returns-in_err-sum : goal.returns-in_err-sum
returns-in_err-sum c =
    let refused = sum_refused _ _ _ _ _ c.loop-k.invariant c.loop-k-test.true _ (rw (c.at-in-loop-k.ensures, c.at.ensures) at c.in_err-sum.ensures) in
    rw (average_is c.args.self.now.store.now c.args.self.now.count (omega arith), ← refused) (search rules)

pub loop-k-preserved : goal.loop-k-preserved
loop-k-preserved c = sum_goes _ _ _ _ _ c.loop-k.invariant c.loop-k-test.true _ (rw (c.at-in-loop-k.ensures, c.at.ensures) at c.in_ok-sum.ensures)

pub returns : goal.returns
returns c = rw (average_is c.args.self.now.store.now c.args.self.now.count (omega arith), ← (sum_over _ _ _ _ _ c.loop-k.invariant c.loop-k-test.false))
