-- What the entry tests of an edge tell. Assumes nothing.
use mathlib.Core.Path.{◌≡◌}
use mathlib.Core.Bool.{Bool}
use Prim.Native.Nat.{◌≤◌}
use borrow.Author.Tests.{ltb-false}
use Rattle.std.specs.Prelude.{Ok}
use Rattle.curve2.specs.Entry.{HasPoints}
use Rattle.curve2.proofs.Laws.{entry_passed, entry_room}
use Rattle.inscribed.specs.Store.{slots}
use Rattle.edges.specs.Edges.{EdgeInput, edge_entry}

pub entry_points : (i : EdgeInput) (finer : Bool) → edge_entry i finer ≡ Ok tt → HasPoints i.section
unfolding edge_entry
entry_points i finer e = (entry_passed _ _ _ e).points

pub entry_count : (i : EdgeInput) (finer : Bool) → edge_entry i finer ≡ Ok tt → i.count ≤ slots i.store
unfolding edge_entry
entry_count i finer e = ltb-false (slots i.store) i.count (entry_room _ _ _ e)
