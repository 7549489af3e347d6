-- What passed the tests can be cut. Assumes nothing.
use Rattle.errors.proofs.Laws.{told}
use Rattle.partitioning.proofs.PieceLaws.{lent-cuttable}
use Rattle.partitioning.specs.Pieces.{stretch_entry}
use Rattle.partitioning.proofs.entered.Goals as goal

pub returns-clause-ready : goal.returns-clause-ready
unfolding stretch_entry
returns-clause-ready c =
    let none = c.default.ensures in
    lent-cuttable c.args.section.now c.args.tol c.args.is_finite c.args.room c.section_entry.result
    (rw (told c.is_bad_count.ensures c.if-is_bad_count.false) (rw (none.1.0, none.1.1.0, none.1.1.1.1) at c.section_entry.ensures.entry))
    c.section_entry.ensures.lent
