-- `ends_meet` measures from the first point to the last. Assumes nothing.
use Rattle.curve2.proofs.Laws.{ends_at}
use Rattle.curve2.proofs.checked.ends_meet.Goals as goal

pub returns : goal.returns
returns c = rw (c.plain_dist.ensures, c.point_at.ensures, c.point_at-2.ensures) (ends_at _ c.args.points.now c.requires.points_len c.requires.in_bounds)
