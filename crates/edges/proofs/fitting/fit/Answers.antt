-- `fit` turns the order, fits, and turns it back. Assumes nothing.
use mathlib.Core.Path.{◌∙◌}
use Rattle.gap.proofs.RoundsLaws.{FitTold}
use Rattle.edges.proofs.FitLaws.{fit_whole}
use Rattle.edges.proofs.fitting.fit.Goals as goal

pub returns : goal.returns
returns c =
    let (first_same, first_store, first_count) = c.turn.ensures in
    let (returned, left, fit_same, fit_count) = c.fit_at_back-fit.ensures in
    let (last_same, last_store, last_count) = c.turn-2.ensures in
    let told : FitTold _ _ c.fit_at_back-fit.new.circles.store.now c.fit_at_back-fit.result = record { returned = returned; left = left } in record {
      fit = rw (last_store, fit_count) (fit_whole _ _ _ _ _ _ _ _ c.args.circles.now.in_store.0 _ first_store c.fit_at_back-fit.new.circles.store.now c.fit_at_back-fit.result (rw (first_same.1, first_count) at told));
      same = ((last_same.0 ∙ fit_same.0 ∙ first_same.0, last_same.1 ∙ fit_same.1 ∙ first_same.1), last_count ∙ fit_count);
    }
