-- `second_half` turns the circles, drops the last, and marches behind them. Assumes nothing.
use Rattle.camber.specs.Extraction.{second_half, second_march}
use Rattle.inscribed.proofs.StoreLaws.{length-circles}
use Rattle.camber.proofs.halves.second_half.Goals as goal

pub returns-in-Ok-clause-run : goal.returns-in-Ok-clause-run
unfolding second_half second_march
returns-in-Ok-clause-run c =
    let (same, store, count) = c.reverse_order.ensures in
    rw (length-circles _ 0 _, ← (rw (c.in-Ok.is, c.reversed.ensures) at c.inscribed_on.ensures)) (rw (c.saturating_sub-circles.ensures, count, same.1, store) at c.march_behind.ensures.run)

pub returns-in-Err-clause-run : goal.returns-in-Err-clause-run
unfolding second_half second_march
returns-in-Err-clause-run c =
    let (same, store, count) = c.reverse_order.ensures in
    rw (length-circles _ 0 _, ← (rw (c.in-Err.is, c.reversed.ensures) at c.inscribed_on.ensures), c.refused.ensures, c.saturating_sub-circles.ensures, count, store)
