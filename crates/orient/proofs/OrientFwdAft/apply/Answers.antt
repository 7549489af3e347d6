-- `apply` turns the order where the check says so, and nothing else. Assumes nothing.
use Rattle.orient.specs.Orientation.{fwd_asked}
use Rattle.orient.proofs.EntryLaws.{asked_bounds}
use Rattle.orient.proofs.OrientFwdAft.apply.Goals as goal

pub new-requires : goal.new-requires
unfolding fwd_asked
new-requires c = asked_bounds _ _ _ _ _ c.in_ok-turn.ensures
