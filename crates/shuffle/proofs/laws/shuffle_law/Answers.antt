-- The law of both rearrangements, of each list of whole numbers. Assumes nothing.
use Rattle.shuffle.proofs.ShuffleLaws.{shuffle_law}
use Rattle.shuffle.proofs.laws.shuffle_law.Goals as goal

pub returns : goal.returns
returns c = λ n bytes whole. shuffle_law bytes n whole
