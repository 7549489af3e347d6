-- `put_words` writes word after word. The loop keeps that the first j are written. Assumes nothing.
use Prim.Native.Nat.{◌*◌}
use Rattle.shuffle.specs.Code.{word_place, bytes_of, Moved}
use Rattle.shuffle.proofs.words.put_words.Given as goal

abbrev pub invariant-loop-j : goal.invariant-loop-j
invariant-loop-j l = Moved (λ p. p) (word_place l.at l.step) (8 * l.j) (bytes_of l.words) l.initial.out l.out
