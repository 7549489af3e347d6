-- The edges that a march tells are edges of the section, and two different ones. Assumes nothing.
use mathlib.Core.Path.{◌≡◌, refl}
use Rattle.std.specs.Prelude.{Some, Ok, Err}
use Prim.Native.Nat.{ℕ}
use native.Mathlib.Omega.{arith}
use Rattle.errors.specs.Answer.{Answer, ◌>>=◌}
use Rattle.queries.specs.Crossing.{crossing_on}
use Rattle.queries.specs.declared.Crossing.{Crossing}
use Rattle.queries.specs.declared.HitEdges.{HitEdges}
use Rattle.queries.proofs.CrossingLaws.{crossing-edges_below, crossing-edges-differ, crossing_there}
use Rattle.camber.specs.March.{Marched, march_entry, found_edges, march_edges}
use Rattle.camber.specs.EdgesLaw.{EdgesOf}

pub march_edges_lem : (m : Marched) (e : HitEdges) → march_edges m ≡ Some e → EdgesOf m e
unfolding found_edges
march_edges_lem m e told = go (march_entry m) told
  where
    met : (a : Answer Crossing) → ((x : Crossing) → a ≡ Ok x → EdgesOf m x.edges) → found_edges a ≡ Some e → EdgesOf m e
    met (Err r) f p = let z : ◌≡◌ {A = ℕ} 0 1 = cc in absurd (omega arith)
    met (Ok x) f p = let w : e ≡ x.edges = cc in rw w (f x refl)

    found : (x : Crossing) → crossing_on m.section m.line ≡ Ok x → EdgesOf m x.edges
    found x p =
        let there = crossing_there m.section m.line x p in
        let below = crossing-edges_below m.section m.line x there in
        record { first_below = below.0; second_below = below.1; differ = crossing-edges-differ m.section m.line x there }

    go : (a : Answer (Unit {0})) → found_edges (a >>= λ passed. crossing_on m.section m.line) ≡ Some e → EdgesOf m e
    go (Err r) p = let z : ◌≡◌ {A = ℕ} 0 1 = cc in absurd (omega arith)
    go (Ok passed) p = met (crossing_on m.section m.line) found p
