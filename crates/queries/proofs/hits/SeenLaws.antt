-- What one pass has seen of the hits. Assumes nothing.
use mathlib.Core.Path.{◌≡◌, refl}
use mathlib.Core.List.{List, [], ◌∷◌}
use lib.Ieee.{Float}
use Rattle.std.specs.Prelude.{Ok, Err}
use Rattle.errors.specs.Answer.{Answer, ◌>>=◌}
use Rattle.line2.specs.declared.Line2.{Line2}
use Rattle.queries.specs.Hits.{section_edges, hits_from}
use Rattle.queries.specs.declared.Hit.{Hit}
use Rattle.queries.specs.Code.{added_to, seen_of, seen_hits}
use Rattle.queries.specs.declared.hits.Seen.{Seen}
use Rattle.queries.proofs.hits.PassLaws.{gathered, pass_left}

after_many : (hs : List Hit) → gathered added_to Seen.Many hs ≡ Seen.Many
unfolding gathered added_to
after_many [] = refl
after_many (h ∷ hs) = after_many hs

pub after_nothing : (hs : List Hit) → gathered added_to Seen.Nothing hs ≡ seen_of hs
unfolding gathered added_to seen_of
after_nothing [] = refl
after_nothing (g ∷ []) = refl
after_nothing (g ∷ (h ∷ [])) = refl
after_nothing (g ∷ (h ∷ (k ∷ hs))) = after_many hs

-- at the start all is left
pub seen_start : (ns : List Float) (l : Line2) → pass_left added_to ns l 0 Seen.Nothing ≡ seen_hits ns l
seen_start ns l = go (hits_from l 0 (section_edges ns))
  where
    go : (a : Answer (List Hit)) → (a >>= λ hs. Ok (gathered added_to Seen.Nothing hs)) ≡ (a >>= λ hs. Ok (seen_of hs))
    go (Ok hs) = rw (after_nothing hs)
    go (Err n) = refl
