-- `reversed` makes the entry tests, and writes the points backwards. Assumes nothing.
use Rattle.std.proofs.Common.{sym, length, arith}
use Rattle.std.proofs.lemmas.Result.{err_from_is_err_and}
use borrow.Author.Tests.{ltb-false}
use Rattle.curve2.proofs.Laws.{entry_room}
use Rattle.cleaning.proofs.Made.{made_curve, made_refused}
use Rattle.cleaning.specs.Cleaning.{backwards}
use Rattle.cleaning.proofs.reversed.Laws.{backwards-length}
use Rattle.cleaning.proofs.reversed.reversed.Goals as goal

pub returns-in_err-section : goal.returns-in_err-section
unfolding backwards
returns-in_err-section c =
    let p = err_from_is_err_and c.from_residual.result c.from_residual.ensures.1 in
    let none = c.default.ensures in
    rw (p.1, p.2) (made_refused _ _ _ (rw (← (rw (none.0, none.1.0, none.1.1.0, none.1.1.1.1) at c.in_err-section.ensures.entry))))

pub put_backwards-requires : goal.put_backwards-requires
put_backwards-requires c =
    let h = c.in_ok-section.ensures in
    rw h.lent.0 (ltb-false (length c.args.out.now) _ (entry_room _ _ _ (sym h.entry)))

pub curve_held-requires-clause-room : goal.curve_held-requires-clause-room
curve_held-requires-clause-room c =
    let h = c.in_ok-section.ensures in
    omega (arith, ltb-false (length c.args.out.now) (length c.args.points.now) (entry_room _ _ _ (sym h.entry)), c.put_backwards.auto.out)

pub returns : goal.returns
unfolding backwards
returns c =
    let h = c.in_ok-section.ensures in
    let even = rw h.lent.0 at c.in_ok-section.section.has_points.even in
    let put = rw h.lent.0 at c.put_backwards.ensures in
    let none = c.default.ensures in
    rw (← (rw (none.0, none.1.0, none.1.1.0, none.1.1.1.1) at h.entry)) (made_curve _ _ _ put _ _ (omega (arith, backwards-length c.args.points.now even)) _ c.curve_held.ensures)
