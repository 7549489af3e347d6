-- One pass over the edges that gathers their hits in order, whatever it keeps of them: each way through its body keeps that what is left decides. Assumes nothing.
use mathlib.Core.Path.{◌≡◌, sym, ◌∙◌}
use mathlib.Core.List.{List, [], ◌∷◌}
use Rattle.std.specs.Prelude.{Option, Some, None, Ok, Err}
use Prim.Native.Nat.{ℕ, suc, ◌+◌, ◌*◌, ◌<◌}
use native.Mathlib.Numerals.{add-one}
use lib.ListN.{length, drop}
use lib.Ieee.{Float}
use Rattle.errors.specs.Answer.{Answer, ◌>>=◌}
use Rattle.errors.specs.declared.Refusal.{Refusal}
use Rattle.errors.proofs.Laws.{bind_assoc}
use Rattle.line2.specs.declared.Line2.{Line2}
use Rattle.queries.specs.Hits.{section_edges, hit, edge_hit, joined_to, hits_from}
use Rattle.queries.specs.declared.Hit.{Hit}
use Rattle.queries.specs.Code.{edge_at}
use Rattle.queries.proofs.hits.EdgeLaws.{edges_step, edges-end, next_edge}

-- what was gathered, and then these
unfoldable pub gathered : {S : Type 0} → (S → Hit → S) → S → List Hit → S
gathered add s [] = s
gathered add s (h ∷ hs) = gathered add (add s h) hs

-- and then the hits of the edges from edge k on
abbrev pub pass_left : {S : Type 0} → (S → Hit → S) → List Float → Line2 → ℕ → S → Answer S
pass_left add ns l k s = hits_from l k (section_edges (drop (2 * k) ns)) >>= λ hs. Ok (gathered add s hs)

module _ {S : Type 0} (add : S → Hit → S) (ns : List Float) (l : Line2) (k : ℕ) (s : S) (whole : Answer S) (inv : pass_left add ns l k s ≡ whole) where
  module _ (fits : 2 * k + 3 < length ns) (r : Answer (Option Float)) (is : r ≡ edge_hit l (edge_at ns (2 * k))) where
    abbrev rest : Answer (List Hit)
    rest = hits_from l (suc k) (section_edges (drop (2 * k + 2) ns))

    pub pass_refused : (x : Refusal) → r ≡ Err x → Err x ≡ whole
    unfolding hits_from
    pass_refused x e = rw (edges_step ns (2 * k) fits, ← (rw e at is)) at inv

    pub pass_missed : r ≡ Ok None → pass_left add ns l (k + 1) s ≡ whole
    unfolding hits_from
    pass_missed e = rw (next_edge k, add-one k) (sym (bind_assoc rest (λ hs. Ok (joined_to k None hs)) (λ hs. Ok (gathered add s hs))) ∙ (rw (edges_step ns (2 * k) fits, ← (rw e at is)) at inv))

    pub pass_hit : (t : Float) → r ≡ Ok (Some t) → pass_left add ns l (k + 1) (add s (hit t k)) ≡ whole
    unfolding hits_from gathered
    pass_hit t e = rw (next_edge k, add-one k) (sym (bind_assoc rest (λ hs. Ok (joined_to k (Some t) hs)) (λ hs. Ok (gathered add s hs))) ∙ (rw (edges_step ns (2 * k) fits, ← (rw e at is)) at inv))

  pub pass_end : 2 * k + 2 ≡ length ns → Ok s ≡ whole
  unfolding hits_from gathered
  pass_end h = rw (edges-end ns (2 * k) h) at inv
