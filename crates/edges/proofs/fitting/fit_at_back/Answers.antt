-- `fit_at_back` finds where the rounds start, and makes them. Assumes nothing.
use mathlib.Core.Path.{refl, sym}
use native.Mathlib.Omega.{arith}
use Rattle.inscribed.proofs.StoreLaws.{stored-again}
use Rattle.edges.specs.Edges.{fit_from}
use Rattle.edges.proofs.StartLaws.{started_count}
use Rattle.edges.proofs.fitting.fit_at_back.Goals as goal

pub rounds-requires : goal.rounds-requires
rounds-requires c = started_count _ _ _ _ _ (rw (c.in-Ok.is, c.in_use.ensures.0, c.in_use.ensures.1) at c.fit_start.ensures)

pub returns-in-Ok : goal.returns-in-Ok
unfolding fit_from
returns-in-Ok c = rw (← (rw (c.in-Ok.is, c.in_use.ensures.0, c.in_use.ensures.1) at c.fit_start.ensures)) c.rounds.ensures

pub returns-in-Err : goal.returns-in-Err
unfolding fit_from
returns-in-Err c = rw (← (rw (c.in-Err.is, c.in_use.ensures.0, c.in_use.ensures.1) at c.fit_start.ensures), c.refused.ensures) (refl, sym (stored-again _ _ (omega (arith, c.args.circles.now.in_store))), (refl, refl), refl)
