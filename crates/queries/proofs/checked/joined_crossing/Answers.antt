-- `joined_crossing` sorts the hits, drops those near the last kept one, and asks for two. Assumes nothing.
use Rattle.errors.proofs.Laws.{handed_on}
use Rattle.queries.proofs.joined.Laws.{joined-kept, none_joined}
use Rattle.queries.proofs.checked.joined_crossing.Goals as goal

pub returns-in_err-sorted_hits : goal.returns-in_err-sorted_hits
returns-in_err-sorted_hits c = rw (handed_on _ _ c.from_residual.ensures.1, ← (joined-kept _ _ _), ← (rw c.in_err-sorted_hits.was at c.sorted_hits.ensures))

pub returns-in-Pair : goal.returns-in-Pair
returns-in-Pair c = rw (← c.is_closed.ensures, ← c.last_edge.ensures, ← (joined-kept _ _ _), ← (rw c.in_ok-sorted_hits.was at c.sorted_hits.ensures), ← c.as_slice.ensures.value, ← c.kept_hits.ensures, c.in-Pair.is) c.spanned.ensures

pub returns-in-Nothing : goal.returns-in-Nothing
returns-in-Nothing c = rw (← c.is_closed.ensures, ← c.last_edge.ensures, ← (joined-kept _ _ _), ← (rw c.in_ok-sorted_hits.was at c.sorted_hits.ensures), ← c.as_slice.ensures.value, ← c.kept_hits.ensures) (none_joined _ _ c.in-Nothing.is)
