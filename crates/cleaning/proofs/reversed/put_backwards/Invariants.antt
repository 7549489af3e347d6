-- `put_backwards` puts the last point first. The loop keeps that the output holds the points behind those that are left, backwards. Assumes nothing.
use Rattle.std.proofs.Common.{◌≡◌, ◌-◌, ◌*◌}
use Rattle.cleaning.specs.Cleaning.{placed}
use Rattle.cleaning.proofs.reversed.Laws.{back_from}
use Rattle.cleaning.proofs.reversed.put_backwards.Given as goal

abbrev pub invariant-loop-i : goal.invariant-loop-i
invariant-loop-i l = l.out ≡ placed (back_from l.section.points.now (2 * (l.n - l.i))) l.initial.out
