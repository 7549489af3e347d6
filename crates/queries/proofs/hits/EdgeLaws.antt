-- A section's edges by the numbers of their points. Assumes nothing.
use mathlib.Core.Path.{◌≡◌, refl}
use mathlib.Core.List.{List, [], ◌∷◌}
use Prim.Native.Nat.{ℕ, ◌+◌, ◌-◌, ◌*◌, ◌<◌}
use native.Mathlib.Omega.{arith}
use lib.ListN.{length, drop}
use lib.Ieee.{Float}
use Rattle.points.specs.declared.Point2.{Point2}
use Rattle.curve2.specs.Section.{points_of}
use Rattle.curve2.proofs.Laws.{points_step, points-end}
use Rattle.queries.specs.Hits.{edges_of}
use Rattle.queries.specs.Code.{edge_at}

pub edges_step : (ns : List Float) (i : ℕ) → i + 3 < length ns → edges_of (points_of (drop i ns)) ≡ edge_at ns i ∷ edges_of (points_of (drop (i + 2) ns))
unfolding edges_of
edges_step ns i h = rw (points_step ns i (omega arith), points_step ns (i + 2) (omega arith))

pub edges-end : (ns : List Float) (i : ℕ) → i + 2 ≡ length ns → edges_of (points_of (drop i ns)) ≡ []
unfolding edges_of
edges-end ns i h = rw (points_step ns i (omega arith), points-end ns (i + 2) (omega arith))

-- where the numbers of the next edge start
pub next_edge : (k : ℕ) → 2 * (k + 1) ≡ 2 * k + 2
next_edge k = omega arith

-- one edge fewer than points
pub length-edges : (ps : List Point2) → length (edges_of ps) ≡ length ps - 1
unfolding edges_of
length-edges [] = refl
length-edges (p ∷ []) = refl
length-edges (p ∷ (q ∷ ps)) = omega (arith, length-edges (q ∷ ps))
