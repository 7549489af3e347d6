-- `sorted_hits` goes over every edge and puts each hit in its place. There are no more hits than edges. Assumes nothing.
use Prim.Native.Nat.{◌≤◌}
use mathlib.Core.Path.{◌≡◌}
use lib.ListN.{length}
use Rattle.queries.proofs.joined.Laws.{insert_into}
use Rattle.queries.proofs.hits.PassLaws.{pass_left}
use Rattle.queries.specs.Code.{sorted_hits}
use Rattle.queries.proofs.joined.sorted_hits.Given as goal

abbrev pub invariant-loop-edge : goal.invariant-loop-edge
invariant-loop-edge l = (length l.hits.items ≤ l.edge) × (pass_left insert_into l.section.points.now l.line l.edge l.hits.items ≡ sorted_hits l.section.points.now l.line)
