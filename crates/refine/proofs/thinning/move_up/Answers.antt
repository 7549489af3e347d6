-- `move_up` puts the kept circles to the store's start, one behind the other, and zeros behind them. Assumes nothing.
use mathlib.Core.Path.{refl}
use Prim.Native.Nat.{◌≤◌}
use native.Mathlib.Omega.{arith}
use lib.ListN.{length}
use Rattle.refine.proofs.ThinLoop.{moved_start, moved_dropped, moved_kept, moved_count, moved_store, with_zeros}
use Rattle.refine.proofs.thinning.move_up.Goals.{then-kept-k, else-kept-k}
use Rattle.refine.proofs.thinning.move_up.Goals as goal

pub loop-k-init : goal.loop-k-init
loop-k-init c = moved_start _ _

pub loop-k-preserved : goal.loop-k-preserved
loop-k-preserved c = let loop = c.loop-k in
    elim c.if-kept-k.branch [
      | then-kept-k w ↦ rw (w.store-is, w.free-is, w.put_circle.ensures, w.circle_at-circle.ensures) (moved_kept _ _ _ _ loop.k loop.invariant (omega (arith, c.requires, c.loop-k-test.true)) w.if-kept-k.true)
      | else-kept-k w ↦ rw (w.store-is, w.free-is) (moved_dropped _ _ _ _ loop.k loop.invariant (omega (arith, c.requires, c.loop-k-test.true)) w.if-kept-k.false)
    ]

pub returns : goal.returns
returns c = let loop = c.loop-k in
    let all_moved : length c.args.kept.now ≤ loop.k = omega (arith, c.requires, c.loop-k-test.false) in
    let count = moved_count _ _ _ _ loop.k loop.invariant all_moved in (
      (refl, refl),
      with_zeros _ _ _ _ _ _ count (omega (arith, loop.invariant.few, loop.auto.k-end)) (omega (arith, c.args.circles.now.in_store, loop.auto.store)) (moved_store _ _ _ _ loop.k loop.invariant all_moved) (c.fill.ensures.after (λ y p. p)),
      count,
    )
