-- The start of a fit has two circles. Assumes nothing.
use mathlib.Core.Path.{◌≡◌, refl}
use mathlib.Core.List.{List, [], ◌∷◌}
use Prim.Native.Nat.{ℕ, ◌≤◌}
use native.Mathlib.Omega.{arith}
use lib.ListN.{length}
use lib.Ieee.{Float}
use Rattle.std.specs.Prelude.{Ok, Err}
use Rattle.errors.specs.Answer.{Answer, ◌>>=◌}
use Rattle.inscribed.specs.Store.{circles_of}
use Rattle.inscribed.proofs.StoreLaws.{length-circles}
use Rattle.inscribed.specs.declared.Inscribed.{Inscribed}
use Rattle.lists.specs.Ends.{last_pair}
use Rattle.lists.specs.declared.ends.Pair.{Pair}
use Rattle.edges.specs.declared.fitting.Start.{Start}
use Rattle.edges.specs.Edges.{start_at_end, fit_start}

some_pair : (cs : List Inscribed) (p : Pair) → last_pair cs ≡ Ok p → 2 ≤ length cs
unfolding last_pair
some_pair [] p e = let z : ◌≡◌ {A = ℕ} 0 1 = cc in absurd (omega arith)
some_pair (a ∷ []) p e = let z : ◌≡◌ {A = ℕ} 0 1 = cc in absurd (omega arith)
some_pair (a ∷ (b ∷ cs)) p e = omega arith

started_two : (ns : List Float) (section_tol : Float) (cs : List Inscribed) (s : Start) → Ok s ≡ fit_start ns section_tol cs → 2 ≤ length cs
unfolding fit_start
started_two ns section_tol cs s e = go (last_pair cs) refl e
  where
    go : (a : Answer Pair) → last_pair cs ≡ a → Ok s ≡ (a >>= start_at_end ns section_tol) → 2 ≤ length cs
    go (Ok p) q f = some_pair cs p q
    go (Err n) q f = let z : ◌≡◌ {A = ℕ} 0 1 = cc in absurd (omega arith)

pub started_count : (ns : List Float) (section_tol : Float) (store : List Float) (n : ℕ) (s : Start) → Ok s ≡ fit_start ns section_tol (circles_of store n) → 2 ≤ n
started_count ns section_tol store n s e = omega (arith, length-circles store 0 n, started_two ns section_tol (circles_of store n) s e)
