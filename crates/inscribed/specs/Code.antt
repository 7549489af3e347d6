-- A store with a circle put into a slot: what one write leaves. It is the code's own. Assumes nothing.
use Rattle.std.specs.Prelude.{List, ◌++◌, ℕ, ◌+◌, ◌*◌, take, drop, Float}
use Rattle.inscribed.specs.Store.{width, numbers_of}
use Rattle.inscribed.specs.declared.Inscribed.{Inscribed}

-- the numbers after c was put into slot k
unfoldable pub with_circle : List Float → ℕ → Inscribed → List Float
with_circle ns k c = take (k * width) ns ++ numbers_of c ++ drop (k * width + width) ns
