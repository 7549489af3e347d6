-- `turn` turns the order at the front, and leaves it at the back. Assumes nothing.
use mathlib.Core.Path.{refl, sym}
use native.Mathlib.Omega.{arith}
use Rattle.inscribed.proofs.StoreLaws.{stored-again}
use Rattle.edges.proofs.fitting.turn.Goals as goal

pub returns-then-at_front : goal.returns-then-at_front
returns-then-at_front c = rw c.if-at_front.true c.reverse_order_only.ensures

pub returns-else-at_front : goal.returns-else-at_front
returns-else-at_front c = rw c.if-at_front.false ((refl, refl), sym (stored-again _ _ (omega (arith, c.args.circles.now.in_store))), refl)
