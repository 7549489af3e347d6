-- What passed the tests has from 2 to 4,096 whole points. Assumes nothing.
use mathlib.Core.Path.{sym}
use Rattle.curve2.proofs.Laws.{entry_passed}
use Rattle.curve2.proofs.entering.section_entry.Goals as goal

pub invariant_of-result : goal.invariant_of-result
invariant_of-result c = record { has_points = (entry_passed _ _ _ (sym c.in_ok-check_section.ensures)).points }
