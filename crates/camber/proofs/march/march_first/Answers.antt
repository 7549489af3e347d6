-- `march_first` accepts its first circle, and goes on from there. Assumes nothing.
use mathlib.Core.Path.{refl, ◌∙◌}
use Rattle.camber.proofs.MarchFrom.{no_slot, first_paused, first_report}
use Rattle.refine.proofs.RefineLaws.{ended-unspent}
use Rattle.camber.proofs.march.march_first.Goals as goal

pub returns-then-circles-eq0-clause-run : goal.returns-then-circles-eq0-clause-run
returns-then-circles-eq0-clause-run c = rw (c.refused.ensures, c.requires.none) (no_slot _ _ _ _ _ _ _ c.if-circles-eq0.true, (refl, refl), refl)

pub returns-then-circles-eq0-clause-paused : goal.returns-then-circles-eq0-clause-paused
returns-then-circles-eq0-clause-paused c = λ e. absurd (ended-unspent _ (rw c.refused.ensures at e))

pub returns-clause-run : goal.returns-clause-run
returns-clause-run c = let (told, same, counted) = c.go_on_from.ensures.run in (
  first_report _ _ _ _ _ _ _ (c.if-circles-eq0.false) c.go_on_from.result _ (rw (c.push.ensures.0.1, c.push.ensures.1, c.push.ensures.2, c.requires.none, c.requires.idle, c.requires.start) at told),
  (same.0 ∙ c.push.ensures.0.0, same.1 ∙ c.push.ensures.0.1),
  counted,
)

pub returns-clause-paused : goal.returns-clause-paused
returns-clause-paused c = first_paused _ _ _ _ _ _ _ (c.if-circles-eq0.false) _ _ _ (rw (c.push.ensures.0.1, c.push.ensures.1, c.push.ensures.2, c.requires.none, c.requires.idle, c.requires.start) at c.go_on_from.ensures.paused)
