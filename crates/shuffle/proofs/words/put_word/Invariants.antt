-- `put_word` writes byte after byte. The loop keeps that the first i are written. Assumes nothing.
use Prim.Native.Nat.{◌+◌}
use Rattle.shuffle.specs.Shuffle.{tabulated}
use Rattle.shuffle.specs.Words.{byte_of}
use Rattle.shuffle.specs.Code.{Moved}
use Rattle.shuffle.proofs.words.put_word.Given as goal

abbrev pub invariant-loop-i : goal.invariant-loop-i
invariant-loop-i l = Moved (λ j. j) (λ j. l.at + j) l.i (tabulated 8 (λ j. byte_of j l.word)) l.initial.out l.out
