-- `words_at` reads word after word. The loop keeps that the first j are read. Assumes nothing.
use Prim.Native.Nat.{ℕ, ◌+◌, ◌*◌, ◌<◌}
use mathlib.Core.Path.{◌≡◌}
use lib.ListN.{length, get_or}
use Rattle.shuffle.specs.Words.{byte_of}
use Rattle.shuffle.proofs.words.words_at.Given as goal

abbrev pub invariant-loop-j : goal.invariant-loop-j
invariant-loop-j l = (length l.word-items ≡ 8) × ((k i : ℕ) → k < l.j → i < 8 → byte_of i (get_or l.word-items k 0) ≡ get_or l.bytes (l.at + k * l.step + i) 0)
