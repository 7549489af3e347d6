-- `pattern::joined`: nothing is shifted out, and the pattern is no NaN's. Assumes nothing.
use Rattle.std.proofs.Common.{◌+◌, ◌*◌, ◌%◌, ◌^◌, arith}
use Rattle.root.proofs.digits.Fields.{no_nan}
use Rattle.root.proofs.digits.pattern.joined.Goals as goal

pub float_from_bits-result : goal.float_from_bits-result
float_from_bits-result c = no_nan (c.args.k * 2 ^ 52 % 2 ^ 64 + c.args.q) (omega arith)
