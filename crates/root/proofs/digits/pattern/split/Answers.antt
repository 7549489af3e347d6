-- `pattern::split`: the fields of the pattern say how many units x is. Assumes nothing.
use Rattle.std.proofs.Common.{arith}
use lib.Bits.{and_mask, mask_lt}
use lib.Ieee.{binary64, to_bits}
use Rattle.root.proofs.digits.Fields.{bits_low, bits_high, square-low, square-high, plus-number}
use Rattle.root.proofs.digits.Scaling.{rescaled}
use Rattle.root.proofs.digits.pattern.split.Goals as goal

pub float_to_bits-bits : goal.float_to_bits-bits
float_to_bits-bits c = plus-number c.args.x c.requires

pub subnormal-requires : goal.subnormal-requires
subnormal-requires c = let x = c.args.x in
    rw (and_mask (to_bits binary64 x) 52) ((bits_low x c.well_formed.0.1 c.requires c.if-field-eq0.true).0, omega arith)

pub returns-then-field-eq0 : goal.returns-then-field-eq0
returns-then-field-eq0 c = rescaled (square-low c.args.x c.well_formed.0.1 c.requires c.if-field-eq0.true) c.subnormal.ensures

pub normal-requires : goal.normal-requires
normal-requires c = let x = c.args.x in
    (omega arith, (bits_high x c.well_formed.0.1 c.requires c.if-field-eq0.false).0, mask_lt (to_bits binary64 x) 52)

pub returns-else-field-eq0 : goal.returns-else-field-eq0
returns-else-field-eq0 c = rescaled (square-high c.args.x c.well_formed.0.1 c.requires c.if-field-eq0.false) c.normal.ensures
