-- `next` takes the next vertex with the lengths at its edge. Assumes nothing.
use Rattle.std.proofs.Common.{sym, arith}
use Rattle.partitioning.proofs.TurnLaws.{next_inner, next_other}
use Rattle.partitioning.proofs.walk.Walk.next.Goals as goal

pub overflow_mul-station : goal.overflow_mul-station
overflow_mul-station c = omega (arith, next_inner _ _ _ c.requires.is c.requires.on _ (sym c.in_ok-station.ensures) c.if-station-w.false)

pub edge_length-requires : goal.edge_length-requires
edge_length-requires c = omega (arith, next_inner _ _ _ c.requires.is c.requires.on _ (sym c.in_ok-station.ensures) c.if-station-w.false)

pub returns-else-station-w : goal.returns-else-station-w
returns-else-station-w c = next_other _ _ _ c.requires.is c.requires.on _ (sym c.in_ok-station.ensures) c.if-station-w.false _ c.edge_length.ensures
