-- `root_of_word`: the invariant says that the turns so far have fed q and r. Assumes nothing.
use Rattle.root.proofs.isqrt.Turns.{Fed}
use Rattle.root.proofs.isqrt.root_of_word.Given as goal

abbrev pub invariant-loop-turn : goal.invariant-loop-turn
invariant-loop-turn l = Fed 62 l.word l._turn l.root.q l.root.r l.left
