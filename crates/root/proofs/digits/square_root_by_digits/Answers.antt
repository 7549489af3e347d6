-- `square_root_by_digits`: each way out by its tests. Assumes nothing.
use lib.Ieee.{of_bits, div}
use Rattle.root.proofs.digits.Cases.{below_nan, root-zero, root_infinite, plus-finite}
use Rattle.root.proofs.digits.square_root_by_digits.Goals.{else-x-2-via-then-x-2+else-x-3, else-x-2-via-else-x-2}
use Rattle.root.proofs.digits.square_root_by_digits.Goals as goal

pub returns-then-x : goal.returns-then-x
unfolding of_bits div
returns-then-x c = below_nan c.args.x c.if-x.true

pub root_above_zero-requires : goal.root_above_zero-requires
unfolding of_bits div
root_above_zero-requires c = plus-finite c.args.x c.if-x-2.true c.if-x-3.true

pub returns-else-x-2 : goal.returns-else-x-2
unfolding of_bits div
returns-else-x-2 c = elim c.else-x-2.branch [
  | else-x-2-via-then-x-2+else-x-3 w ↦ root_infinite c.args.x w.if-x-2.true w.if-x-3.false
  | else-x-2-via-else-x-2 w ↦ root-zero c.args.x c.if-x.false w.if-x-2.false
]
