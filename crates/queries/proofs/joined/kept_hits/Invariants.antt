-- `kept_hits` keeps those that aren't near the last kept one. Assumes nothing.
use mathlib.Core.Path.{◌≡◌}
use lib.ListN.{drop}
use Rattle.queries.specs.Hits.{nearby_neighbour, dropped}
use Rattle.queries.specs.Code.{seen_of}
use Rattle.queries.proofs.joined.Laws.{kept_left}
use Rattle.queries.proofs.joined.kept_hits.Given as goal

abbrev pub invariant-loop-hit : goal.invariant-loop-hit
invariant-loop-hit l = kept_left (nearby_neighbour l.closed l.last_edge) (drop l.hit-index l.rest) l.last l.seen ≡ seen_of (dropped (nearby_neighbour l.closed l.last_edge) l.hits)
