-- `cut` cleans the points given, and tells how many they were. Assumes nothing.
use Rattle.partitioning.proofs.PieceLaws.{cut_made}
use Rattle.partitioning.proofs.cut.Goals as goal

pub returns : goal.returns
returns c = cut_made c.args.given.now _ _ _ c.clean-c.ensures
