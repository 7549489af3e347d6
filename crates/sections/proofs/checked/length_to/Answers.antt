-- `length_to` sums from the first vertex on. Assumes nothing.
use mathlib.Core.Path.{sym}
use native.Mathlib.Omega.{arith}
use Rattle.sections.proofs.LengthLaws.{length_start}
use Rattle.sections.proofs.checked.length_to.Goals as goal

pub length_on-requires : goal.length_on-requires
length_on-requires c = (omega arith, c.requires, sym (length_start _ (omega arith)))
