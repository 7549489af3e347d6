-- `march_started` marches from its first circle on, and hands its state out. Assumes nothing.
use Rattle.std.proofs.Common.{rules}
use Rattle.camber.proofs.HandedLaws.{told_handed, told_alike}
use Rattle.camber.proofs.march.march_started.Goals as goal

pub returns : goal.returns
returns c = λ section_tol line. let (now, slots, count) = c.with_slot_limit-circles.ensures.held in
    told_alike c.march_first-run.result _ _ _ _ _ (search rules) c.handed_out.ensures
    (told_handed _ _ _ _ _ _ c.march_first-run.result _ _ _ _
    (rw (now, slots, c.none_taken.ensures.0, c.none_taken.ensures.1) at c.march_first-run.ensures.run.0)
    (rw (slots, c.none_taken.ensures.0, c.none_taken.ensures.1) at c.march_first-run.ensures.paused))
