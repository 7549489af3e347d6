-- The joined crossing: hits put in their places, and those near the last kept one dropped. Assumes nothing.
use mathlib.Core.Path.{◌≡◌, refl, sym, ap}
use mathlib.Core.Bool.{Bool, true, false, cond}
use mathlib.Core.List.{List, [], ◌∷◌}
use Rattle.std.specs.Prelude.{Option, Some, None, Ok, Err, unwrap_or}
use Prim.Native.Nat.{ℕ, zero, suc, ◌+◌, ◌≤◌, ◌<◌}
use native.Mathlib.Nat.{le_refl}
use native.Mathlib.Numerals.{add-one}
use native.Mathlib.Omega.{arith}
use borrow.Author.Tests.{ltb-false}
use lib.Dec.{ltb}
use lib.ListN.{length, get_or, drop, drop_of_length-le}
use lib.Seq.{drop-cons}
use lib.Ieee.{Float, lt}
use Rattle.std.specs.List.{insert, position_or_len}
use Rattle.std.proofs.lemmas.List.Recursion.{is_position_or_len}
use Rattle.errors.specs.Answer.{Answer, ◌>>=◌}
use Rattle.line2.specs.declared.Line2.{Line2}
use Rattle.queries.specs.Hits.{section_edges, hits_from, inserted, sorted_into, sorted, dropped_after, dropped}
use Rattle.queries.specs.declared.Hit.{Hit}
use Rattle.queries.specs.Code.{added_to, seen_of, place_of, sorted_hits}
use Rattle.queries.specs.Crossing.{Span, span, span_of, crossed, crossing_with}
use Rattle.queries.specs.declared.hits.Seen.{Seen}
use Rattle.queries.proofs.CrossingLaws.{NotPair, no_pair}
use Rattle.queries.specs.declared.Crossing.{Crossing}
use Rattle.queries.proofs.hits.PassLaws.{gathered, pass_left}
use Rattle.queries.proofs.hits.SeenLaws.{after_nothing}

-- ---- where a hit goes

place_bound : (t : Float) (gs : List Hit) → place_of t gs ≤ length gs
unfolding place_of
place_bound t [] = le_refl 0
place_bound t (g ∷ gs) = go (lt t g.t) (place_bound t gs)
  where
    go : (b : Bool) → place_of t gs ≤ length gs → cond b zero (suc (place_of t gs)) ≤ suc (length gs)
    go true ih = omega arith
    go false ih = omega arith

pub place_within : (t : Float) (gs : List Hit) (k : ℕ) → k ≡ place_of t gs → k ≤ length gs
place_within t gs k e = rw e (place_bound t gs)

place_is : (t : Float) (gs : List Hit) → place_of t gs ≡ position_or_len (λ g. lt t g.t) gs
unfolding place_of
place_is t = is_position_or_len (place_of t) (λ (g : Hit). lt t g.t) refl (λ (g : Hit) (gs : List Hit). grind arith)

pub place_told : (t : Float) (gs : List Hit) → unwrap_or (cond (ltb (position_or_len (λ g. lt t g.t) gs) (length gs)) (Some (position_or_len (λ g. lt t g.t) gs)) None) (length gs) ≡ place_of t gs
place_told t gs = go (ltb n (length gs)) refl
  where
    n : ℕ
    n = position_or_len (λ g. lt t g.t) gs

    go : (b : Bool) → ltb n (length gs) ≡ b → unwrap_or (cond b (Some n) None) (length gs) ≡ place_of t gs
    go true e = sym (place_is t gs)
    go false e = omega (arith, ltb-false n (length gs) e, place_bound t gs, place_is t gs)

pub inserted_at : (h : Hit) (gs : List Hit) → insert gs (place_of h.t gs) h ≡ inserted h gs
unfolding place_of inserted
inserted_at h [] = refl
inserted_at h (g ∷ gs) = go (lt h.t g.t) (inserted_at h gs)
  where
    go : (b : Bool) → insert gs (place_of h.t gs) h ≡ inserted h gs → insert (g ∷ gs) (cond b zero (suc (place_of h.t gs))) h ≡ cond b (h ∷ (g ∷ gs)) (g ∷ inserted h gs)
    go true ih = refl
    go false ih = ap (λ (x : List Hit). g ∷ x) ih

length-inserted : (h : Hit) (gs : List Hit) → length (inserted h gs) ≡ suc (length gs)
unfolding inserted
length-inserted h [] = refl
length-inserted h (g ∷ gs) = go (lt h.t g.t) (length-inserted h gs)
  where
    go : (b : Bool) → length (inserted h gs) ≡ suc (length gs) → length (cond b (h ∷ (g ∷ gs)) (g ∷ inserted h gs)) ≡ suc (suc (length gs))
    go true ih = refl
    go false ih = ap suc ih

-- one hit more
pub inserted_bound : (h : Hit) (old new : List Hit) (k : ℕ) → new ≡ inserted h old → length old ≤ k → length new ≤ k + 1
inserted_bound h old new k e b = rw e (omega (arith, length-inserted h old))

-- ---- sorted hits

abbrev pub insert_into : List Hit → Hit → List Hit
insert_into gs h = inserted h gs

sorted_gathered : (gs hs : List Hit) → gathered insert_into gs hs ≡ sorted_into gs hs
unfolding gathered sorted_into
sorted_gathered gs [] = refl
sorted_gathered gs (h ∷ hs) = sorted_gathered (inserted h gs) hs

pub sorted_start : (ns : List Float) (l : Line2) → pass_left insert_into ns l 0 [] ≡ sorted_hits ns l
sorted_start ns l = go (hits_from l 0 (section_edges ns))
  where
    go : (a : Answer (List Hit)) → (a >>= λ hs. Ok (gathered insert_into [] hs)) ≡ (a >>= λ hs. Ok (sorted hs))
    go (Ok hs) = rw (sorted_gathered [] hs)
    go (Err n) = refl

-- ---- those kept

-- what is seen, and then what is kept of these, whichever hits are near
abbrev pub kept_left : (Hit → Hit → Bool) → List Hit → Hit → Seen → Seen
kept_left near hs last seen = gathered added_to seen (dropped_after near last hs)

module _ (near : Hit → Hit → Bool) (hs : List Hit) (k : ℕ) (last : Hit) (seen whole : Seen) (inv : kept_left near (drop k hs) last seen ≡ whole) where
  module _ (d : Hit) (b : k < length hs) where
    abbrev h : Hit
    h = get_or hs k d

    pub kept-dropped : near last h ≡ true → kept_left near (drop (k + 1) hs) last seen ≡ whole
    unfolding dropped_after
    kept-dropped p = rw (add-one k) (rw (drop-cons hs k d b, p) at inv)

    pub kept_more : near last h ≡ false → kept_left near (drop (k + 1) hs) h (added_to seen h) ≡ whole
    unfolding dropped_after gathered
    kept_more p = rw (add-one k) (rw (drop-cons hs k d b, p) at inv)

  pub kept-end : length hs ≤ k → seen ≡ whole
  unfolding dropped_after gathered
  kept-end h = rw (drop_of_length-le hs h) at inv

pub none_kept : (near : Hit → Hit → Bool) (hs : List Hit) → length hs ≡ 0 → Seen.Nothing ≡ seen_of (dropped near hs)
unfolding dropped seen_of
none_kept near [] e = refl
none_kept near (h ∷ hs) e = absurd (omega (arith, e))

pub kept_start : (near : Hit → Hit → Bool) (h : Hit) (hs : List Hit) → kept_left near hs h (Seen.One h) ≡ seen_of (dropped near (h ∷ hs))
unfolding dropped gathered added_to
kept_start near h hs = after_nothing (h ∷ dropped_after near h hs)

-- two in order are a span
abbrev pub span_kept : Seen → Option Span
span_kept Seen.Nothing = None
span_kept (Seen.One g) = None
span_kept (Seen.Pair g h) = Some (span g h)
span_kept Seen.Many = None

pub none_joined : (l : Line2) (s : Seen) → NotPair s → ◌≡◌ {A = Answer (Option Crossing)} (Ok None) (crossed l (span_kept s))
unfolding crossed
none_joined l Seen.Nothing h = refl
none_joined l (Seen.One g) h = refl
none_joined l (Seen.Pair f g) h = absurd (no_pair f g h)
none_joined l Seen.Many h = refl

span_kept_lem : (hs : List Hit) → span_of hs ≡ span_kept (seen_of hs)
unfolding span_of seen_of
span_kept_lem [] = refl
span_kept_lem (g ∷ []) = refl
span_kept_lem (g ∷ (h ∷ [])) = refl
span_kept_lem (g ∷ (h ∷ (k ∷ hs))) = refl

pub joined-kept : (near : Hit → Hit → Bool) (ns : List Float) (l : Line2) → (sorted_hits ns l >>= λ hs. crossed l (span_kept (seen_of (dropped near hs)))) ≡ crossing_with near ns l
unfolding crossing_with
joined-kept near ns l = go (hits_from l 0 (section_edges ns))
  where
    go : (a : Answer (List Hit)) → ((a >>= λ hs. Ok (sorted hs)) >>= λ hs. crossed l (span_kept (seen_of (dropped near hs)))) ≡ (a >>= λ hs. crossed l (span_of (dropped near (sorted hs))))
    go (Err n) = refl
    go (Ok hs) = rw (span_kept_lem (dropped near (sorted hs)))
