-- `march_behind` marches into the part behind k circles. Assumes nothing.
use Rattle.std.proofs.Common.{rules}
use Rattle.camber.proofs.PartLaws.{behind-run, told_in}
use Rattle.camber.proofs.halves.march_behind.Goals as goal

pub returns-clause-run : goal.returns-clause-run
returns-clause-run c = let parts = c.split_at_mut-store.ensures in behind-run _ _ _ _ c.march_from-ran.result _ _ parts.front parts.back (told_in c.march_from-ran.result _ _ _ (search rules) c.march_from-ran.ensures.0)
