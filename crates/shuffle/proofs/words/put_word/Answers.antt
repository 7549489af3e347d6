use native.Mathlib.Omega.{arith}
use Rattle.shuffle.proofs.WordLaws.{put_byte}
use Rattle.shuffle.proofs.words.put_word.Goals as goal

pub loop-i-preserved : goal.loop-i-preserved
loop-i-preserved c = rw c.to_le_bytes.ensures (put_byte c.args.word c.args.at c.loop-i.i _ _ (omega arith) c.loop-i.invariant (omega arith))
