-- `refine_waiting` is the refinement run from the circles in its store on, where there is one. Assumes nothing.
use mathlib.Core.Path.{refl, sym, ◌∙◌}
use native.Mathlib.Omega.{arith}
use Prim.Native.Nat.{◌<◌}
use lib.ListN.{length, length-reverse}
use Rattle.std.proofs.lemmas.Bool.{false≢true, leb-true, leb-false}
use Rattle.std.proofs.lemmas.List.{nil_from_length}
use Rattle.refine.proofs.RefineLaws.{spent-not_finished, refused-not_finished, loop_waits, ended-unspent, newest, loop_start, loop_finished, loop_spent, loop_refused, loop_added, loop_accepted, room_to_wait, room_to_take}
use Rattle.refine.proofs.checked.refine_waiting.Goals as goal

pub loop-top-init : goal.loop-top-init
loop-top-init c = let (fits, in_bounds) = c.args.circles.now.in_store in
    (c.requires.few, omega arith, omega (arith, c.requires.some), (refl, refl), loop_start _ _ _ _ _ _ _ _ fits in_bounds)

pub returns-in-None-clause-run : goal.returns-in-None-clause-run
returns-in-None-clause-run c = let at = c.loop-top in
    rw c.spent.ensures
    (loop_spent _ _ _ _ _ _ _ _ _ _ _ (rw (newest _ _ _ c.in-Some.ensures.items) at at.invariant.4) (λ e. omega arith) (omega (arith, at.invariant.1, leb-true _ _ (sym c.in-None.ensures.spent))), at.invariant.3, refl)

pub returns-in-None-clause-waits : goal.returns-in-None-clause-waits
returns-in-None-clause-waits c = let at = c.loop-top in
    λ e. rw (newest _ _ _ c.push.ensures.items) (loop_waits _ _ _ _ _ _ _ _ _ _ _ (rw (newest _ _ _ c.in-Some.ensures.items) at at.invariant.4) (λ z. omega arith) (omega (arith, at.invariant.1, leb-true _ _ (sym c.in-None.ensures.spent))))

pub push-requires-in-Ok-Some-2 : goal.push-requires-in-Ok-Some-2
push-requires-in-Ok-Some-2 c = (omega arith, omega (arith, c.len.ensures.value, c.push-in-Ok-Some.ensures.len, room_to_wait _ _ _ _ _ (sym (rw (c.last-last.ensures, c.in-Ok-Some.is, c.in-Ok-Some.field-0-is) at c.tried.ensures))))

pub loop-top-smaller-in-Ok-Some : goal.loop-top-smaller-in-Ok-Some
loop-top-smaller-in-Ok-Some c = omega (arith, c.in-Some.ensures.len, c.push-in-Ok-Some.ensures.len, c.push-in-Ok-Some-2.ensures.len, c.len.ensures.value, room_to_wait _ _ _ _ _ (sym (rw (c.last-last.ensures, c.in-Ok-Some.is, c.in-Ok-Some.field-0-is) at c.tried.ensures)))

pub loop-top-preserved-in-Ok-Some : goal.loop-top-preserved-in-Ok-Some
loop-top-preserved-in-Ok-Some c = let at = c.loop-top in
    let room = room_to_wait _ _ _ _ _ (sym (rw (c.last-last.ensures, c.in-Ok-Some.is, c.in-Ok-Some.field-0-is) at c.tried.ensures)) in (
      omega (arith, c.push-in-Ok-Some.ensures.len, c.push-in-Ok-Some-2.ensures.len, c.len.ensures.value),
      c.in-Some-take.ensures.one.0 ∙ at.invariant.1,
      at.invariant.2,
      at.invariant.3,
      rw (c.in-Some-take.ensures.one.1, newest _ _ _ c.push-in-Ok-Some-2.ensures.items, newest _ _ _ c.push-in-Ok-Some.ensures.items)
          (loop_added _ _ _ _ _ _ _ _ _ _ _ (rw (newest _ _ _ c.in-Some.ensures.items) at at.invariant.4) (λ e. omega arith) (omega (arith, at.invariant.1, leb-false _ _ (sym c.in-Some-take.ensures.spent))) _ (omega (arith, length-reverse c.pop.new.self.items, c.len.ensures.value)) _ (sym (rw (c.last-last.ensures, c.in-Ok-Some.is, c.in-Ok-Some.field-0-is) at c.tried.ensures))),
    )

pub push-requires-in-Ok-None : goal.push-requires-in-Ok-None
push-requires-in-Ok-None c = room_to_take _ _ _ _ (sym (rw (c.last-last.ensures, c.in-Ok-None.is, c.in-Ok-None.field-0-is) at c.tried.ensures))

pub loop-top-preserved : goal.loop-top-preserved
loop-top-preserved c = let at = c.loop-top in
    let pushed = c.push-in-Ok-None.ensures in (
      omega (arith, c.in-Some.ensures.len),
      c.in-Some-take.ensures.one.0 ∙ at.invariant.1,
      omega (arith, pushed.2),
      (pushed.0.0 ∙ at.invariant.3.0, pushed.0.1 ∙ at.invariant.3.1),
      rw (c.in-Some-take.ensures.one.1, pushed.0.1, pushed.1, pushed.2)
          (loop_accepted _ _ _ _ _ _ _ _ _ _ _ (rw (newest _ _ _ c.in-Some.ensures.items) at at.invariant.4) (λ e. omega arith) (omega (arith, at.invariant.1, leb-false _ _ (sym c.in-Some-take.ensures.spent))) _ (omega (arith, length-reverse c.pop.new.self.items, c.len.ensures.value)) (sym (rw (c.last-last.ensures, c.in-Ok-None.is, c.in-Ok-None.field-0-is) at c.tried.ensures))),
    )

pub returns-in-Err-clause-run : goal.returns-in-Err-clause-run
returns-in-Err-clause-run c = let at = c.loop-top in
    rw (c.refused.ensures, c.in-Some-take.ensures.one.1)
    (loop_refused _ _ _ _ _ _ _ _ _ _ _ (rw (newest _ _ _ c.in-Some.ensures.items) at at.invariant.4) (λ e. omega arith) (omega (arith, at.invariant.1, leb-false _ _ (sym c.in-Some-take.ensures.spent))) _ (omega (arith, length-reverse c.pop.new.self.items, c.len.ensures.value)) _ (sym (rw (c.last-last.ensures, c.in-Err.is) at c.tried.ensures)), at.invariant.3, refl)

pub returns-clause-run : goal.returns-clause-run
returns-clause-run c = let at = c.loop-top in
    let none_waits : 0 < length at.waiting.items → ⊥ = λ h. false≢true (c.in_default.ensures.variant.1 h) in
    let none = nil_from_length at.waiting.items (omega (arith, none_waits)) in
    rw c.finished.ensures (loop_finished _ _ _ _ _ _ _ _ _ (rw none at at.invariant.4), at.invariant.3, refl)

pub returns-in-Err-clause-waits : goal.returns-in-Err-clause-waits
returns-in-Err-clause-waits c = λ e. absurd (ended-unspent _ (rw c.refused.ensures at e))

pub returns-clause-waits : goal.returns-clause-waits
returns-clause-waits c = λ e. absurd (ended-unspent _ (rw c.finished.ensures at e))

pub returns-in-None-clause-none_left : goal.returns-in-None-clause-none_left
returns-in-None-clause-none_left c = λ e. absurd (spent-not_finished (rw c.spent.ensures at e))

pub returns-in-Err-clause-none_left : goal.returns-in-Err-clause-none_left
returns-in-Err-clause-none_left c = λ e. absurd (refused-not_finished _ (rw c.refused.ensures at e))

pub returns-clause-none_left : goal.returns-clause-none_left
returns-clause-none_left c = let at = c.loop-top in
    let none_waits : 0 < length at.waiting.items → ⊥ = λ h. false≢true (c.in_default.ensures.variant.1 h) in
    λ e. rw c.in_default.ensures.empty (nil_from_length at.waiting.items (omega (arith, none_waits)))
