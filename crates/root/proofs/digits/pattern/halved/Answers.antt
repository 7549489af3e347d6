-- `pattern::halved`: a takes the odd factor 2, and what is left of 2 ^ e is a power of 4. Assumes nothing.
use lib.Bits.{and_mask}
use Rattle.root.proofs.digits.Scaling.{scaled_of}
use Rattle.root.proofs.digits.pattern.halved.Goals as goal

pub returns : goal.returns
returns c = rw (and_mask c.args.e 1) (scaled_of c.args.m c.args.e c.requires.0 c.requires.1 c.requires.2)
