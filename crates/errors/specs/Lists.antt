-- The last of a list that has one. Assumes nothing.
use Rattle.std.specs.Prelude.{List, [], ◌∷◌}

-- the last of a and those after it
unfoldable pub last_of : {A : Type 0} → A → List A → A
last_of a [] = a
last_of a (b ∷ bs) = last_of b bs
