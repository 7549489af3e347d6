-- The ending law, of each extraction and at each limit. Assumes nothing.
use Rattle.camber.proofs.extraction.LimitLaw.{extraction_law}
use Rattle.camber.proofs.laws.ending_law_of_extractions.Goals as goal

pub returns : goal.returns
returns c = extraction_law
