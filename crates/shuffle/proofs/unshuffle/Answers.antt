use mathlib.Core.Path.{sym}
use Rattle.shuffle.specs.Shuffle.{unshuffled}
use Rattle.shuffle.proofs.EntryLaws.{rearranged_passed, unshuffled_moved}
use Rattle.shuffle.proofs.unshuffle.Goals as goal

pub returns : goal.returns
returns c =
    let passed = c.in_ok-entered.ensures in
    let moved = rw (c.together.ensures, c.sorted.ensures) at c.move_numbers.ensures in
    rearranged_passed unshuffled _ _ _ passed (unshuffled_moved _ _ _ (sym passed) c.move_numbers.auto.out moved)
