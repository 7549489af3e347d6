-- Laws of keeping point by point. Assumes nothing.
use mathlib.Core.Path.{◌≡◌, refl, sym, ap, ◌∙◌}
use mathlib.Core.Bool.{Bool, true, false}
use mathlib.Core.List.{List, [], ◌∷◌, ◌++◌, append_assoc, append-nil}
use Prim.Native.Nat.{ℕ, ◌+◌, ◌*◌, ◌%◌, ◌≤◌, ◌<◌}
use native.Mathlib.Numerals.{add-one}
use native.Mathlib.Omega.{arith}
use lib.ListN.{length, take, drop, set, length-append, length-drop}
use lib.Seq.{sets-eq, take_at, drop-append-add, drop-drop}
use lib.Ieee.{Float, le}
use Rattle.errors.specs.Lists.{last_of}
use Rattle.points.specs.declared.Point2.{Point2}
use Rattle.curve2.specs.Section.{points_of, point_at, plain_dist}
use Rattle.curve2.proofs.Laws.{points_step, points-end}
use Rattle.cleaning.specs.Cleaning.{kept, kept_after, point_numbers, placed}
use Rattle.cleaning.specs.Code.{Held, put, keep, last_point, holding}
use Rattle.cleaning.proofs.Numbers.{points-length, numbers-length, numbers-snoc, last_snoc}

-- ---- a point more

drop-behind : {A : Type 0} (xs ys : List A) (n k : ℕ) → length xs ≡ n → drop (n + k) (xs ++ ys) ≡ drop k ys
drop-behind xs ys n k e = rw (← e) (drop-append-add xs ys k)

last_point_lem : (ps : List Point2) (p : Point2) → last_point (ps ++ (p ∷ [])) ≡ p
unfolding last_point last_of
last_point_lem [] p = refl
last_point_lem (q ∷ ps) p = last_snoc q ps p

module _ (old : List Float) (ps : List Point2) (p : Point2) (room : 2 * length ps + 2 ≤ length old) where
  -- the output before it is written to has room for two numbers behind those that it holds
  tail_length : 2 * length ps + 2 ≤ length (placed ps old)
  tail_length = simp (length-append, length-drop) (omega (arith, numbers-length ps))

  count-snoc : length (ps ++ (p ∷ [])) ≡ length ps + 1
  count-snoc = length-append ps (p ∷ [])

  placed_snoc : set (set (placed ps old) (2 * length ps) p.x) (2 * length ps + 1) p.y ≡ placed (ps ++ (p ∷ [])) old
  placed_snoc =
      let n = numbers-length ps in
      let t : take (2 * length ps) (placed ps old) ≡ point_numbers ps = take_at _ _ _ n in
      let e : 2 * length (ps ++ (p ∷ [])) ≡ 2 * length ps + 2 = omega (arith, count-snoc) in
      let d : drop (2 * length ps + 2) (placed ps old) ≡ drop (2 * length (ps ++ (p ∷ []))) old = drop-behind (point_numbers ps) _ _ 2 n ∙ rw (drop-drop, e) in
      rw (add-one (2 * length ps)) (sets-eq (p.x ∷ (p.y ∷ [])) (placed ps old) (2 * length ps) tail_length ∙ rw (t, d, numbers-snoc ps p))

  pub put-holding : put (length ps) p (placed ps old) ≡ holding old (ps ++ (p ∷ []))
  unfolding put holding
  put-holding = rw (placed_snoc, count-snoc, last_point_lem ps p)

-- ---- point after point

unfoldable pub keep_all : Float → Held → List Point2 → Held
keep_all tol h [] = h
keep_all tol h (p ∷ ps) = keep_all tol (keep tol h p) ps

-- what is held after one point more
module _ (tol : Float) (old : List Float) (p : Point2) (ps : List Point2) (q : Point2) (room : 2 * length (p ∷ ps) + 2 ≤ length old) where
  pub keep_drops : le (plain_dist q (last_of p ps)) tol ≡ true → keep tol (holding old (p ∷ ps)) q ≡ holding old (p ∷ ps)
  unfolding keep holding last_point
  keep_drops e = rw e

  pub keep_puts : le (plain_dist q (last_of p ps)) tol ≡ false → keep tol (holding old (p ∷ ps)) q ≡ holding old (p ∷ (ps ++ (q ∷ [])))
  unfolding keep holding last_point
  keep_puts e = rw e (put-holding old (p ∷ ps) q room)

  -- the rest is kept after what is held
  abbrev After : List Point2 → List Point2 → Type 0
  After ps qs = keep_all tol (holding old (p ∷ ps)) qs ≡ holding old (p ∷ (ps ++ kept_after tol (last_of p ps) qs))

  after_one : (qs : List Point2) → After ps qs → After (ps ++ (q ∷ [])) qs → After ps (q ∷ qs)
  unfolding keep_all kept_after
  after_one qs dropped more = go (le (plain_dist q (last_of p ps)) tol) refl
    where
      go : (b : Bool) → le (plain_dist q (last_of p ps)) tol ≡ b → After ps (q ∷ qs)
      go true e = rw (e, keep_drops e) dropped
      go false e = rw (e, keep_puts e, more, last_snoc p ps q, append_assoc)

-- the points that cleaning keeps of qs, after those that are held
pub keep_all_lem : (tol : Float) (old : List Float) (p : Point2) (ps qs : List Point2) → 2 * (length (p ∷ ps) + length qs) ≤ length old
    → keep_all tol (holding old (p ∷ ps)) qs ≡ holding old (p ∷ (ps ++ kept_after tol (last_of p ps) qs))
unfolding keep_all kept_after
keep_all_lem tol old p ps [] h = rw append-nil
keep_all_lem tol old p ps (q ∷ qs) h = after_one tol old p ps q (omega arith) qs (keep_all_lem tol old p ps qs (omega arith)) (keep_all_lem tol old p (ps ++ (q ∷ [])) qs (omega (arith, length-append ps (q ∷ []))))

-- from the first point on
pub clean_from : (tol : Float) (old : List Float) (p : Point2) (qs : List Point2) → 2 * (length qs + 1) ≤ length old → keep_all tol (put 0 p old) qs ≡ holding old (kept tol (p ∷ qs))
unfolding kept last_of point_numbers
clean_from tol old p qs h = rw (put-holding old [] p (omega arith)) (keep_all_lem tol old p [] qs (omega arith))

pub keep-count : (tol : Float) (h : Held) (p : Point2) (h₂ : Held) → h₂ ≡ keep tol h p → h₂.kept.count ≤ h.kept.count + 1
unfolding keep put
keep-count tol h p h₂ e = go (le (plain_dist p h.kept.last) tol) refl
  where
    go : (b : Bool) → le (plain_dist p h.kept.last) tol ≡ b → h₂.kept.count ≤ h.kept.count + 1
    go true f = omega (arith, rw f at (ap (λ (k : Held). k.kept.count) e))
    go false f = omega (arith, rw f at (ap (λ (k : Held). k.kept.count) e))

-- a loop over the points: one more of them, whatever they are read from
pub keep_next : (tol : Float) (h : Held) (p : Point2) (ps : List Point2) (h₂ : Held) → h₂ ≡ keep tol h p → keep_all tol h (p ∷ ps) ≡ keep_all tol h₂ ps
unfolding keep_all
keep_next tol h p ps h₂ e = rw e

-- and where they are read from a list of numbers
module _ (tol : Float) (ns : List Float) (i : ℕ) (h whole : Held) (inv : keep_all tol h (points_of (drop i ns)) ≡ whole) where
  pub kept_one : i + 1 < length ns → (h₂ : Held) → h₂ ≡ keep tol h (point_at ns i) → keep_all tol h₂ (points_of (drop (i + 2) ns)) ≡ whole
  kept_one fits h₂ e = sym (keep_next tol h (point_at ns i) _ h₂ e) ∙ (rw (points_step ns i fits) at inv)

  pub kept_last : length ns ≤ i → h ≡ whole
  unfolding keep_all
  kept_last e = rw (points-end ns i e) at inv

pub first_point : (ns : List Float) → 2 ≤ length ns → points_of ns ≡ point_at ns 0 ∷ points_of (drop 2 ns)
first_point ns h = points_step ns 0 (omega arith)

pub clean-numbers : (tol : Float) (old ns : List Float) → length ns % 2 ≡ 0 → 2 ≤ length ns → length ns ≤ length old
    → keep_all tol (put 0 (point_at ns 0) old) (points_of (drop 2 ns)) ≡ holding old (kept tol (points_of ns))
clean-numbers tol old ns even least room =
    let e = first_point ns least in
    rw e (clean_from tol old (point_at ns 0) (points_of (drop 2 ns)) (omega (arith, points-length ns even, ap length e)))
