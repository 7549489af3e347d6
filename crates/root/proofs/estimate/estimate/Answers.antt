-- `estimate::estimate`: the patterns are no NaN's, and the result is a fraction under a leading digit. Assumes nothing.
use Rattle.std.proofs.Common.{ℕ, ◌-◌, ◌^◌, ◌<◌, arith}
use lib.Bits.{bit_and, bit_xor, mask_lt, xor_lt}
use Rattle.root.proofs.digits.Fields.{no_nan}
use Rattle.root.proofs.estimate.estimate.Goals as goal

-- the digits of the fraction, and the last of the exponent, changed
changed : (b : ℕ) → bit_xor (bit_and b (2 ^ 53 - 1)) (2 ^ 52) < 2 ^ 53
changed b = xor_lt 53 (bit_and b (2 ^ 53 - 1)) (2 ^ 52) (mask_lt b 53) (omega arith)

pub float_from_bits-m : goal.float_from_bits-m
float_from_bits-m c = no_nan _ (omega (arith, changed c.args.bits))

pub float_from_bits-w : goal.float_from_bits-w
float_from_bits-w c = no_nan _ (omega (arith, changed c.args.bits))
