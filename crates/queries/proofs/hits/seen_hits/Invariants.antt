-- `seen_hits` goes over every edge. Assumes nothing.
use mathlib.Core.Path.{◌≡◌}
use Rattle.queries.proofs.hits.PassLaws.{pass_left}
use Rattle.queries.specs.Code.{added_to, seen_hits}
use Rattle.queries.proofs.hits.seen_hits.Given as goal

abbrev pub invariant-loop-edge : goal.invariant-loop-edge
invariant-loop-edge l = pass_left added_to l.section.points.now l.line l.edge l.seen ≡ seen_hits l.section.points.now l.line
