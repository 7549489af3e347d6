-- `go_on_with_slots` makes the entry tests, and then goes on from the state. Assumes nothing.
use mathlib.Core.Path.{sym}
use native.Mathlib.Omega.{arith}
use Rattle.std.proofs.Common.{rules}
use Rattle.camber.proofs.HandedLaws.{passed_state, passed_room, few_wait, one_in_use, due_few, idle_now, gone_on, told_handed, told_alike}
use Rattle.camber.proofs.going.go_on_with_slots.Goals as goal

pub with_slot_limit-circles-requires-clause-held : goal.with_slot_limit-circles-requires-clause-held
with_slot_limit-circles-requires-clause-held c = let e = sym (rw c.in_ok-curve.was at c.entered.ensures.entry) in (omega (arith, passed_room _ e), omega (arith, passed_room _ e))

pub circles_waiting-waiting-requires : goal.circles_waiting-waiting-requires
circles_waiting-waiting-requires c = let e = sym (rw c.in_ok-curve.was at c.entered.ensures.entry) in few_wait _ _ (passed_state _ e)

pub go_on_from-run-requires-clause-some : goal.go_on_from-run-requires-clause-some
go_on_from-run-requires-clause-some c = let e = sym (rw c.in_ok-curve.was at c.entered.ensures.entry) in let (now, slots, count) = c.with_slot_limit-circles.ensures.held in omega (arith, count, one_in_use _ _ (passed_state _ e))

pub go_on_from-run-requires-clause-fraction : goal.go_on_from-run-requires-clause-fraction
go_on_from-run-requires-clause-fraction c = let e = sym (rw c.in_ok-curve.was at c.entered.ensures.entry) in rw c.due_of-due.ensures (due_few _ _ (passed_state _ e))

pub go_on_from-run-requires-clause-idle : goal.go_on_from-run-requires-clause-idle
go_on_from-run-requires-clause-idle c = let e = sym (rw c.in_ok-curve.was at c.entered.ensures.entry) in rw (c.due_of-due.ensures, c.circles_waiting-waiting.ensures) (idle_now _ _ (passed_state _ e))

pub returns : goal.returns
returns c =
    let e = sym (rw c.in_ok-curve.was at c.entered.ensures.entry) in
    let (now, slots, count) = c.with_slot_limit-circles.ensures.held in
    gone_on _ e _ _
    (told_alike c.go_on_from-run.result _ _ _ _ _ (search rules) c.handed_out.ensures
    (told_handed _ _ _ _ _ _ c.go_on_from-run.result _ _ _ _
    (rw (now, slots, count, c.circles_waiting-waiting.ensures, c.due_of-due.ensures, c.none_taken.ensures.0, c.none_taken.ensures.1, c.in_ok-curve.ensures.lent.0) at c.go_on_from-run.ensures.run.0)
    (rw (now, slots, count, c.circles_waiting-waiting.ensures, c.due_of-due.ensures, c.none_taken.ensures.0, c.none_taken.ensures.1, c.in_ok-curve.ensures.lent.0) at c.go_on_from-run.ensures.paused)))
