-- The thickest circle and the nearest station. Assumes nothing.
use mathlib.Core.Path.{◌≡◌, refl, ap}
use mathlib.Core.List.{List}
use Prim.Native.Nat.{ℕ, ◌+◌, ◌≤◌, ◌<◌}
use native.Mathlib.Omega.{arith}
use lib.Ieee.{Float}
use Rattle.std.specs.Prelude.{Ok, Err}
use Rattle.errors.specs.Answer.{Answer, ◌>>=◌}
use Rattle.points.specs.declared.Point2.{Point2}
use Rattle.points.specs.declared.Vector2.{Vector2}
use Rattle.queries.specs.Nearest.{nearest_of}
use Rattle.queries.specs.declared.Nearest.{Nearest}
use Rattle.queries.proofs.ClosestLaws.{nearest_below}
use Rattle.curve2.specs.Stations.{station, last_vertex, edge_direction}
use Rattle.sections.specs.Places.{at_closest}
use Rattle.curve2.specs.declared.CurveStation2.{CurveStation2}
use Rattle.inscribed.specs.Store.{circle_at, circles_of}
use Rattle.inscribed.proofs.StoreLaws.{length-circles}
use Rattle.inscribed.specs.Lists.{tmax}
use Rattle.inscribed.proofs.MeasureLaws.{circle_of_list, tmax-place}
use Rattle.orient.specs.Orientation.{thickest}

-- ---- the thickest circle

module _ (ns : List Float) (count : ℕ) (some : 1 ≤ count) where
  pub thickest_below : tmax (circles_of ns count) < count
  thickest_below = let l = length-circles ns 0 count in omega (arith, l, tmax-place (circles_of ns count) (omega (arith, l)))

  pub thickest_at : circle_at ns (tmax (circles_of ns count)) ≡ thickest (circles_of ns count)
  unfolding thickest
  thickest_at = let z : 0 + tmax (circles_of ns count) ≡ tmax (circles_of ns count) = omega arith in rw (circle_of_list ns 0 count (tmax (circles_of ns count)) _ thickest_below, z)

-- ---- the nearest station stands on an edge

index_in : Answer CurveStation2 → ℕ
index_in (Ok s) = s.index
index_in (Err n) = 0

pub station_below : (ns : List Float) (p : Point2) (s : CurveStation2) → Ok s ≡ at_closest ns p → s.index < last_vertex ns
unfolding at_closest index_in
station_below ns p s e = go (nearest_of ns p) refl e
  where
    more : (n : Nearest) (d : Answer Vector2) → n.index < last_vertex ns → Ok s ≡ (d >>= λ v. Ok (station n.at.point v n.index n.at.fraction)) → s.index < last_vertex ns
    more n (Ok v) h f = rw (ap index_in f) h
    more n (Err k) h f = let z : ◌≡◌ {A = ℕ} 0 1 = cc in absurd (omega arith)

    go : (x : Answer Nearest) → nearest_of ns p ≡ x → Ok s ≡ (x >>= λ n. edge_direction ns n.index >>= λ d. Ok (station n.at.point d n.index n.at.fraction)) → s.index < last_vertex ns
    go (Ok n) q f = more n (edge_direction ns n.index) (nearest_below ns p n q) f
    go (Err k) q f = let z : ◌≡◌ {A = ℕ} 0 1 = cc in absurd (omega arith)
