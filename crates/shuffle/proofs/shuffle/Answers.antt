use mathlib.Core.Path.{sym}
use Rattle.shuffle.specs.Shuffle.{shuffled}
use Rattle.shuffle.proofs.EntryLaws.{rearranged_passed, shuffled_moved}
use Rattle.shuffle.proofs.shuffle.Goals as goal

pub returns : goal.returns
returns c =
    let passed = c.in_ok-entered.ensures in
    let moved = rw (c.together.ensures, c.sorted.ensures) at c.move_numbers.ensures in
    rearranged_passed shuffled _ _ _ passed (shuffled_moved _ _ _ (sym passed) c.move_numbers.auto.out moved)
