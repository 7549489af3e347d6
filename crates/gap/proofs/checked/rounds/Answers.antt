-- `rounds` keeps that what is left of the fit gives the whole. Assumes nothing.
use mathlib.Core.Path.{refl, sym, ◌∙◌}
use Prim.Native.Nat.{◌+◌, ◌-◌}
use native.Mathlib.Omega.{arith}
use lib.Ieee.{div, of_bits}
use Rattle.gap.specs.Rounds.{most_rounds}
use Rattle.inscribed.proofs.StoreLaws.{stored-again}
use Rattle.gap.proofs.RoundsLaws.{ends_here, no_more, still, round-over, round_next}
use Rattle.gap.proofs.checked.rounds.Goals as goal

pub loop-turn-init : goal.loop-turn-init
unfolding div of_bits
loop-turn-init c = ((refl, refl), record { low = c.requires; fits = c.args.circles.now.in_store.0; within = omega arith; holds = sym (stored-again _ _ (omega (arith, c.args.circles.now.in_store))); left = refl })

pub returns-then-reached-tol : goal.returns-then-reached-tol
returns-then-reached-tol c =
    let l = c.loop-turn.invariant.1 in
    let told = ends_here _ _ _ _ _ _ _ _ _ _ _ _ _ l (still _ _ _ _ _ _ _ _ _ _ _ _ _ l (most_rounds - (c.loop-turn.turn + 1)) (omega arith) c.if-reached-tol.true) c.finished.result (rw c.finished.ensures) in
    (told.returned, told.left, c.loop-turn.invariant.0, rw c.finished.ensures)

pub round-requires : goal.round-requires
round-requires c = c.loop-turn.invariant.1.low

pub invariant_of-units : goal.invariant_of-units
invariant_of-units c = record { within = c.loop-turn.invariant.1.within }

pub returns-in-Break : goal.returns-in-Break
returns-in-Break c =
    let before = c.loop-turn.invariant.0 in
    let (returned, left, same, count) = c.round.ensures in
    let told = round-over _ _ _ _ _ _ _ _ _ _ _ _ _ c.loop-turn.invariant.1 (most_rounds - (c.loop-turn.turn + 1)) (omega arith) c.if-reached-tol.false c.round.new.circles.store.now c.round.new.circles.count c.round.result (record { returned = returned; left = left }) _ c.in-Break.is in
    (told.returned, told.left, (same.0 ∙ before.0, same.1 ∙ before.1), sym (rw c.in-Break.is at count))

pub loop-turn-preserved : goal.loop-turn-preserved
loop-turn-preserved c =
    let before = c.loop-turn.invariant.0 in
    let (returned, left, same, count) = c.round.ensures in (
      (same.0 ∙ before.0, same.1 ∙ before.1),
      rw same.1 (round_next _ _ _ _ _ _ _ _ _ _ _ _ _ c.loop-turn.invariant.1 (most_rounds - (c.loop-turn.turn + 1)) (omega arith) c.if-reached-tol.false c.round.new.circles.store.now c.round.new.circles.count c.round.result (record { returned = returned; left = left }) _ c.in-Continue.is),
    )

pub returns : goal.returns
returns c =
    let l = c.loop-turn.invariant.1 in
    let told = ends_here _ _ _ _ _ _ _ _ _ _ _ _ _ l (no_more _ _ _ _ _ _ _ _ _ _ _ _ _ l (omega arith)) c.finished-2.result (rw c.finished-2.ensures) in
    (told.returned, told.left, c.loop-turn.invariant.0, rw c.finished-2.ensures)
