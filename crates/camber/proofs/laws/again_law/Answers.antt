-- Refining again, of each march within each limit and each other list. Assumes nothing.
use Rattle.camber.proofs.MarchAgain.{again_law}
use Rattle.camber.proofs.laws.again_law.Goals as goal

pub returns : goal.returns
returns c = λ m first other known as_many. again_law m known first other as_many
