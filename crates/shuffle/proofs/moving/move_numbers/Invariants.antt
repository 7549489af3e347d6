-- `move_numbers` moves group after group, and then byte after byte. The loops keep that g groups and p bytes are moved. Assumes nothing.
use Prim.Native.Nat.{◌*◌}
use Rattle.shuffle.specs.Code.{standing, Moved}
use Rattle.shuffle.proofs.moving.move_numbers.Given as goal

abbrev pub invariant-loop-g : goal.invariant-loop-g
invariant-loop-g l = Moved (standing l.from.next l.from.step) (standing l.to.next l.to.step) (64 * l.g) l.input l.initial.out l.out

abbrev pub invariant-loop-p : goal.invariant-loop-p
invariant-loop-p l = Moved (standing l.from.next l.from.step) (standing l.to.next l.to.step) l.p l.input l.fn.out l.out
