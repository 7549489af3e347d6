-- What a change of the circles in a store leaves. It is the code's own: no definition of an answer rests on it. Assumes nothing.
use Rattle.std.specs.Prelude.{◌≡◌, List, ℕ, Float}
use Rattle.inscribed.specs.Store.{circles_of}
use Rattle.inscribed.specs.declared.Inscribed.{Inscribed}
use Rattle.inscribed.specs.declared.checked.CirclesStore.{CirclesStore}

-- the circles in use
abbrev pub in_use : CirclesStore → List Inscribed
in_use s = circles_of s.store.now s.count

-- the same numbers in memory, with room for as many circles
abbrev pub SameStore : CirclesStore → CirclesStore → Type 0
SameStore old new = (new.store.ghost_name ≡ old.store.ghost_name) × (new.slots ≡ old.slots)

-- the same store, with the numbers ns and n circles in use
abbrev pub Becomes : CirclesStore → CirclesStore → List Float → ℕ → Type 0
Becomes old new ns n = SameStore old new × (new.store.now ≡ ns) × (new.count ≡ n)
