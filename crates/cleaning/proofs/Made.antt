-- Laws of the curve that cleaning makes, and of its output. Assumes nothing.
use mathlib.Core.Path.{◌≡◌, refl, sym, ap, ◌∙◌}
use mathlib.Core.Bool.{Bool, true, false, ◌&&◌, cond}
use mathlib.Core.List.{List, [], ◌∷◌}
use Prim.Native.Nat.{ℕ, zero, suc, ◌+◌, ◌*◌, ◌%◌, ◌≤◌, ◌<◌}
use native.Mathlib.Omega.{arith}
use borrow.Author.Tests.{le-ltb}
use lib.Dec.{ltb}
use lib.ListN.{length, take, drop, length-append}
use lib.Seq.{take_at}
use lib.Ieee.{Float, le}
use Rattle.std.specs.Prelude.{Ok, Err}
use Rattle.std.specs.List.{list_all, range_with_len}
use native.Mathlib.Numerals.{add-one}
use Rattle.errors.specs.Answer.{Answer}
use Rattle.errors.specs.Lists.{last_of}
use Rattle.errors.specs.declared.Refusal.{Refusal}
use Rattle.points.specs.declared.Point2.{Point2}
use Rattle.curve2.specs.Section.{points_of, point_at, plain_dist, ends_meet}
use Rattle.curve2.proofs.Laws.{points_step, points-end}
use Rattle.cleaning.specs.Cleaning.{kept, kept_after, point_numbers, placed, forced_closed, closing, curve_answer, output_after, Made}
use Rattle.cleaning.specs.Code.{Held, keep, close_held, holding}
use Rattle.cleaning.specs.declared.Curve.{Curve}
use Rattle.cleaning.proofs.Numbers.{points-length, points-numbers, numbers-length}
use Rattle.cleaning.proofs.HeldLaws.{keep_drops, keep_puts, first_point}

-- ---- forced closing

close-holding : (tol : Float) (forced : Bool) (old : List Float) (p : Point2) (ps : List Point2) → 2 * length (p ∷ ps) + cond forced 2 0 ≤ length old
    → close_held tol forced (holding old (p ∷ ps)) ≡ holding old (closing tol forced (p ∷ ps))
unfolding close_held forced_closed ends_meet holding point_numbers
close-holding tol false old p ps h = refl
close-holding tol true old p ps h = go (le (plain_dist p (last_of p ps)) tol) refl
  where
    go : (b : Bool) → le (plain_dist p (last_of p ps)) tol ≡ b → keep tol (holding old (p ∷ ps)) p ≡ holding old (forced_closed tol (p ∷ ps))
    go true e = rw e (keep_drops tol old p ps p h e)
    go false e = rw e (keep_puts tol old p ps p h e)

-- it adds one point at most
pub closing-count : (tol : Float) (forced : Bool) (ps : List Point2) → (length ps ≤ length (closing tol forced ps)) × (length (closing tol forced ps) ≤ length ps + 1)
unfolding forced_closed ends_meet
closing-count tol false ps = (omega arith, omega arith)
closing-count tol true [] = (omega arith, omega arith)
closing-count tol true (p ∷ ps) = go (ends_meet tol (p ∷ ps)) refl
  where
    go : (b : Bool) → ends_meet tol (p ∷ ps) ≡ b → (length (p ∷ ps) ≤ length (forced_closed tol (p ∷ ps))) × (length (forced_closed tol (p ∷ ps)) ≤ length (p ∷ ps) + 1)
    go true e = rw e (omega arith, omega arith)
    go false e = rw e (omega (arith, length-append (p ∷ ps) (p ∷ [])), omega (arith, length-append (p ∷ ps) (p ∷ [])))

-- and takes two numbers more at most
closing_room : (tol : Float) (forced : Bool) (ps : List Point2) → 2 * length (closing tol forced ps) ≤ 2 * length ps + cond forced 2 0
closing_room tol false ps = omega arith
closing_room tol true ps = omega (arith, closing-count tol true ps)

-- ---- a curve in an output

pub held-count : (old : List Float) (ps : List Point2) (h : Held) → h ≡ holding old ps → h.kept.count ≡ length ps
unfolding holding
held-count old ps h e = rw e

pub held-output : (old : List Float) (ps : List Point2) (h : Held) → h ≡ holding old ps → h.output ≡ placed ps old
unfolding holding
held-output old ps h e = rw e

module _ (old : List Float) (ps : List Point2) (end : ℕ) (out : List Float) (n : end ≡ 2 * length ps) (o : out ≡ placed ps old) where
  -- its numbers are the output's first
  pub first_numbers : take end out ≡ point_numbers ps
  first_numbers = rw o (take_at _ _ _ (numbers-length ps ∙ sym n))

  pub first_length : length (take end out) ≡ end
  first_length = rw first_numbers (numbers-length ps ∙ sym n)

-- what is returned of it
pub made_curve : (old : List Float) (ps : List Point2) (out : List Float) → out ≡ placed ps old → (tol : Float) (count : ℕ) → count ≡ length ps
    → (c : Curve) → c ≡ record { count = count; is_closed = ends_meet tol (points_of (take (2 * count) out)) } → Made (Ok ps) tol old out (Ok c)
unfolding curve_answer output_after
made_curve old ps out o tol count n c e =
    let numbers = first_numbers old ps (2 * count) out (ap (λ (n : ℕ). 2 * n) n) o in
    record { listed = rw (e, numbers, points-numbers ps, n); output = o }

pub made_refused : {answer : Answer (List Point2)} (tol : Float) (old : List Float) (r : Refusal) → answer ≡ Err r → Made answer tol old old (Err r)
unfolding curve_answer output_after
made_refused tol old r e = record { listed = rw e; output = rw e }

-- ---- cleaning, in two steps

pub kept-count : (tol : Float) (p : Point2) (qs : List Point2) → length (kept_after tol p qs) ≤ length qs
unfolding kept_after
kept-count tol p [] = omega arith
kept-count tol p (q ∷ qs) = go (le (plain_dist q p) tol) refl (kept-count tol p qs) (kept-count tol q qs)
  where
    go : (b : Bool) → le (plain_dist q p) tol ≡ b → length (kept_after tol p qs) ≤ length qs → length (kept_after tol q qs) ≤ length qs → length (kept_after tol p (q ∷ qs)) ≤ length (q ∷ qs)
    go true e h k = rw e (omega arith)
    go false e h k = rw e (omega arith)

module _ (tol : Float) (ns : List Float) (even : length ns % 2 ≡ 0) (least : 2 ≤ length ns) where
  pub kept_least : 1 ≤ length (kept tol (points_of ns))
  unfolding kept
  kept_least = rw (first_point ns least) (omega arith)

  pub kept-most : 2 * length (kept tol (points_of ns)) ≤ length ns
  unfolding kept
  kept-most = let e = first_point ns least in rw e (omega (arith, points-length ns even, ap length e, kept-count tol (point_at ns 0) (points_of (drop 2 ns))))

module _ (tol : Float) (ns old : List Float) (forced : Bool) (h₁ : Held) (e₁ : h₁ ≡ holding old (kept tol (points_of ns)))
    (even : length ns % 2 ≡ 0) (least : 2 ≤ length ns) (room : length ns + cond forced 2 0 ≤ length old) where
  pub close_room : 2 * h₁.kept.count + cond forced 2 0 ≤ length old
  close_room = omega (arith, kept-most tol ns even least, held-count _ _ _ e₁)

  module _ (h₂ : Held) (e₂ : h₂ ≡ close_held tol forced h₁) where
    pub closed-held : h₂ ≡ holding old (closing tol forced (kept tol (points_of ns)))
    unfolding kept
    closed-held =
        let few = rw (first_point ns least) at (kept-most tol ns even least) in
        e₂ ∙ rw (e₁, first_point ns least) (close-holding tol forced old (point_at ns 0) (kept_after tol (point_at ns 0) (points_of (drop 2 ns))) (omega arith))

    pub closed-count : (1 ≤ h₂.kept.count) × (2 * h₂.kept.count ≤ length old)
    closed-count =
        let n = held-count _ _ _ closed-held in
        let m = closing-count tol forced (kept tol (points_of ns)) in
        (omega (arith, kept_least tol ns even least), omega (arith, kept-most tol ns even least, closing_room tol forced (kept tol (points_of ns))))

    pub closed_made : (c : Curve) → c ≡ record { count = h₂.kept.count; is_closed = ends_meet tol (points_of (take (2 * h₂.kept.count) h₂.output)) }
        → Made (Ok (closing tol forced (kept tol (points_of ns)))) tol old h₂.output (Ok c)
    closed_made c e = made_curve _ _ _ (held-output _ _ _ closed-held) tol _ (held-count _ _ _ closed-held) c e

-- ---- 5: fewer than two points are kept

-- every one of the points is within the tolerance of p, so that none of them is kept behind it
unfoldable pub all_near : Float → Point2 → List Point2 → Bool
all_near tol p [] = true
all_near tol p (q ∷ qs) = le (plain_dist q p) tol && all_near tol p qs

pub too_few : (tol : Float) (p : Point2) (qs : List Point2) → all_near tol p qs ≡ ltb (length (kept tol (p ∷ qs))) 2
unfolding kept kept_after all_near
too_few tol p [] = refl
too_few tol p (q ∷ qs) = go (le (plain_dist q p) tol) refl (too_few tol p qs)
  where
    go : (b : Bool) → le (plain_dist q p) tol ≡ b → all_near tol p qs ≡ ltb (length (kept tol (p ∷ qs))) 2 → all_near tol p (q ∷ qs) ≡ ltb (length (kept tol (p ∷ (q ∷ qs)))) 2
    go true e more = rw e more
    go false e more = rw (e, le-ltb (length (p ∷ (q ∷ kept_after tol q qs))) 2 (omega arith))

-- the points from number k on, n of them, which are the last
near_from : (tol : Float) (ns : List Float) (p : Point2) (k n : ℕ) → length ns ≡ 2 * (k + n) → list_all (λ i. le (plain_dist (point_at ns (2 * i)) p) tol) (range_with_len k n) ≡ all_near tol p (points_of (drop (2 * k) ns))
unfolding all_near
near_from tol ns p k zero h = rw (points-end ns (2 * k) (omega (arith, h))) refl
near_from tol ns p k (suc n) h =
    let next : 2 * k + 2 ≡ 2 * (k + 1) = omega arith in
    rw (points_step ns (2 * k) (omega (arith, h)), next, ← near_from tol ns p (k + 1) n (omega (arith, h)), add-one k) refl

pub too_few_points : (tol : Float) (ns : List Float) (p : Point2) (n : ℕ) → p ≡ point_at ns 0 → length ns ≡ 2 * (1 + n) → list_all (λ i. le (plain_dist (point_at ns (2 * i)) p) tol) (range_with_len 1 n) ≡ ltb (length (kept tol (points_of ns))) 2
too_few_points tol ns p n e h = near_from tol ns p 1 n h ∙ rw (e, first_point ns (omega (arith, h))) (too_few tol (point_at ns 0) (points_of (drop 2 ns)))
