-- `apply` swaps the contacts where the check says so, and nothing else. Assumes nothing.
use Rattle.orient.specs.Orientation.{upper_asked}
use Rattle.orient.proofs.EntryLaws.{asked_bounds}
use Rattle.orient.proofs.OrientUpperLower.apply.Goals as goal

pub new-requires : goal.new-requires
unfolding upper_asked
new-requires c = asked_bounds _ _ _ _ _ c.in_ok-swap.ensures
