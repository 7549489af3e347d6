use native.Mathlib.Omega.{arith}
use Rattle.shuffle.proofs.WordLaws.{put_more}
use Rattle.shuffle.proofs.words.put_words.Goals as goal

pub loop-j-preserved : goal.loop-j-preserved
loop-j-preserved c = put_more c.args.at c.args.step c.loop-j.j _ _ _ _ c.requires.le_step (omega arith) c.loop-j.invariant c.put_word.ensures
