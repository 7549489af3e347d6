-- Where the points of a camber curve stand before they are cleaned: one after the other, the first of them at place i. It is the code's own. Assumes nothing.
use Rattle.std.specs.Prelude.{List, [], ◌∷◌, ℕ, ◌+◌, Float}
use Rattle.points.specs.declared.Point2.{Point2}
use Rattle.cleaning.specs.Code.{put}

unfoldable pub put_all : ℕ → List Point2 → List Float → List Float
unfolding put
put_all i [] out = out
put_all i (p ∷ ps) out = put_all (i + 1) ps (put i p out).output
