use mathlib.Core.Path.{sym}
use Rattle.record.proofs.Lengths.{circle_length}
use Rattle.record.proofs.writing.circle_length.Goals as goal

pub returns : goal.returns
returns c = rw (c.map_of.ensures, c.numbers.ensures) (sym (circle_length c.args.c).0)
