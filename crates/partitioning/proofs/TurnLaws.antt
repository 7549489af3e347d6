-- The station at a vertex, and the next vertex of a walk. Assumes nothing.
use mathlib.Core.Path.{◌≡◌, refl, ap}
use mathlib.Core.Bool.{Bool, true, false}
use mathlib.Core.List.{List}
use Rattle.std.specs.Prelude.{Ok, Err}
use Prim.Native.Nat.{ℕ, ◌+◌, ◌-◌, ◌*◌, ◌<◌}
use native.Mathlib.Omega.{arith}
use borrow.Author.Tests.{eqb-true, eqb-false, eq-eqb, ne_eqb}
use lib.Dec.{eqb}
use lib.Ieee.{Float}
use Rattle.errors.specs.Answer.{Answer, ◌>>=◌}
use Rattle.points.specs.Numbers.{◌+f◌, f0, f1}
use Rattle.points.specs.declared.Vector2.{Vector2}
use Rattle.curve2.specs.Section.{point_at, plain_dist}
use Rattle.curve2.specs.Stations.{station, vertex, last_vertex, vertex_direction, at_vertex}
use Rattle.curve2.specs.declared.CurveStation2.{CurveStation2}
use Rattle.sections.proofs.LengthLaws.{length_after}
use Rattle.partitioning.specs.Code.{working_at, next_of}
use Rattle.partitioning.specs.declared.walk.Working.{Working}

-- ---- the station at a vertex

pub record AtInner (ns : List Float) (j : ℕ) (v : CurveStation2) : Type 0 where
  pub point : v.point ≡ vertex ns j
  pub index : v.index ≡ j
  pub fraction : v.fraction ≡ f0

-- an inner vertex lies on its own edge
pub at_inner : (ns : List Float) (tol : Float) (j : ℕ) (v : CurveStation2) → (j ≡ last_vertex ns → ⊥) → at_vertex ns tol j ≡ Ok v → AtInner ns j v
unfolding at_vertex
at_inner ns tol j v off e = go (vertex_direction ns tol j) (rw (ne_eqb _ _ off) at e)
  where
    go : (d : Answer Vector2) → (d >>= λ d. Ok (station (vertex ns j) d j f0)) ≡ Ok v → AtInner ns j v
    go (Ok d) h = record { point = cc; index = cc; fraction = cc }
    go (Err r) h = let z : ◌≡◌ {A = ℕ} 0 1 = cc in absurd (omega arith)

-- the last one lies on the last edge
pub record AtEnd (ns : List Float) (j : ℕ) (v : CurveStation2) : Type 0 where
  pub point : v.point ≡ vertex ns j
  pub index : v.index ≡ j - 1
  pub fraction : v.fraction ≡ f1

pub at-end : (ns : List Float) (tol : Float) (j : ℕ) (v : CurveStation2) → j ≡ last_vertex ns → at_vertex ns tol j ≡ Ok v → AtEnd ns j v
unfolding at_vertex
at-end ns tol j v on e = go (vertex_direction ns tol j) (rw (eq-eqb _ _ on) at e)
  where
    go : (d : Answer Vector2) → (d >>= λ d. Ok (station (vertex ns j) d (j - 1) f1)) ≡ Ok v → AtEnd ns j v
    go (Ok d) h = record { point = cc; index = cc; fraction = cc }
    go (Err r) h = let z : ◌≡◌ {A = ℕ} 0 1 = cc in absurd (omega arith)

-- ---- the next vertex

module _ (ns : List Float) (tol : Float) (w : Working) (is : w ≡ working_at ns w.station) (fits : w.station.index < last_vertex ns) where
  abbrev i : ℕ
  i = w.station.index

  module _ (v : CurveStation2) (e : at_vertex ns tol (i + 1) ≡ Ok v) where
    -- any other is on the next
    pub next_inner : (v.index ≡ i → ⊥) → (v.index ≡ i + 1) × (i + 1 < last_vertex ns)
    next_inner off = go (eqb (i + 1) (last_vertex ns)) refl
      where
        go : (b : Bool) → eqb (i + 1) (last_vertex ns) ≡ b → (v.index ≡ i + 1) × (i + 1 < last_vertex ns)
        go true g = absurd (off (omega (arith, (at-end ns tol (i + 1) v (eqb-true _ _ g) e).index)))
        go false g = let far = eqb-false (i + 1) (last_vertex ns) g in ((at_inner ns tol (i + 1) v far e).index, omega (arith, far))

    pub next_other : (v.index ≡ i → ⊥) → (d : Float) → d ≡ plain_dist (point_at ns (2 * v.index + 2)) (point_at ns (2 * v.index))
        → Ok (record { station = v; m = w.n; n = d +f w.n }) ≡ next_of ns tol w.station
    unfolding next_of
    next_other off d f =
        let on = (next_inner off).0 in
        rw (e, ap (λ (x : Working). x.n) is, f, on, length_after ns (i + 1) (next_inner off).1)
