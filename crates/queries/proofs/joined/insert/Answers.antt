use native.Mathlib.Omega.{arith}
use Rattle.queries.proofs.joined.Laws.{place_within, inserted_at}
use Rattle.queries.proofs.joined.insert.Goals as goal

pub insert-requires : goal.insert-requires
insert-requires c = (omega arith, (rw c.as_slice.ensures.value at (place_within _ _ _ c.place_of-place.ensures), c.requires))

pub returns : goal.returns
returns c = rw (c.insert.ensures.items, c.place_of-place.ensures, c.as_slice.ensures.value) (inserted_at _ _)
