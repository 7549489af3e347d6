-- The direction at a vertex, for the first, for the last and for those between. Assumes nothing.
use mathlib.Core.Path.{◌≡◌, refl}
use mathlib.Core.Bool.{Bool, true, false, ◌&&◌, cond}
use mathlib.Core.List.{List}
use Prim.Native.Nat.{ℕ, ◌-◌}
use borrow.Author.Tests.{eq-eqb, ne_eqb}
use lib.Ieee.{Float}
use Rattle.curve2.specs.Section.{is_closed}
use Rattle.curve2.specs.Stations.{last_vertex, edge_direction, mean_direction, vertex_direction}

and_true : {A : Type 0} (b : Bool) (x y : A) → cond b x y ≡ cond (b && true) x y
and_true true x y = refl
and_true false x y = refl

and_false : {A : Type 0} (b : Bool) (x y : A) → y ≡ cond (b && false) x y
and_false true x y = refl
and_false false x y = refl

module _ (ns : List Float) (tol : Float) (i : ℕ) where
  pub front_direction : i ≡ 0 → cond (is_closed ns tol) (mean_direction ns 0 (last_vertex ns - 1)) (edge_direction ns 0) ≡ vertex_direction ns tol i
  unfolding vertex_direction
  front_direction e = rw (eq-eqb i 0 e) (and_true (is_closed ns tol) _ _)

  module _ (later : i ≡ 0 → ⊥) where
    pub back_direction : i ≡ last_vertex ns → cond (is_closed ns tol) (mean_direction ns 0 (last_vertex ns - 1)) (edge_direction ns (i - 1)) ≡ vertex_direction ns tol i
    unfolding vertex_direction
    back_direction e = rw (ne_eqb i 0 later, eq-eqb i (last_vertex ns) e, e) (and_true (is_closed ns tol) _ _)

    pub inner_direction : (i ≡ last_vertex ns → ⊥) → mean_direction ns (i - 1) i ≡ vertex_direction ns tol i
    unfolding vertex_direction
    inner_direction h = rw (ne_eqb i 0 later, ne_eqb i (last_vertex ns) h) (and_false (is_closed ns tol) _ _)
