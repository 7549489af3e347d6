-- `march_on` works the circle of its crossing out, and then marches. Assumes nothing.
use Rattle.camber.specs.March.{after_start, state_after}
use Rattle.camber.proofs.march.march_on.Goals as goal

pub returns-in-Ok : goal.returns-in-Ok
unfolding after_start state_after
returns-in-Ok c = λ section_tol line. rw (← (rw c.in-Ok.is at c.from_crossing.ensures)) (c.march_started.ensures section_tol line)
