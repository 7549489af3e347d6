-- The points of a stretch: how many they are, and that they stand in the array. Assumes nothing.
use mathlib.Core.Path.{◌≡◌, refl, sym, ap, ◌∙◌}
use mathlib.Core.Bool.{Bool, true, false, cond}
use mathlib.Core.List.{List, [], ◌∷◌, ◌++◌}
use Prim.Native.Nat.{ℕ, ◌+◌, ◌*◌, ◌≤◌}
use native.Mathlib.Omega.{arith}
use lib.Dec.{ltb}
use lib.ListN.{length, take, length-append}
use lib.Ieee.{Float, binary64, fits, lt}
use Rattle.std.specs.Prelude.{Ok, Err}
use Rattle.errors.specs.Answer.{Answer, ◌>>=◌}
use Rattle.errors.specs.declared.Refusal.{Refusal}
use Rattle.errors.specs.declared.Refusal.TheVariants.{EmptyStretch}
use Rattle.points.specs.declared.Point2.{Point2}
use Rattle.curve2.specs.Section.{points_of, plain_dist}
use Rattle.curve2.specs.Entry.{IsSection}
use Rattle.cleaning.specs.Cleaning.{kept, placed}
use Rattle.cleaning.specs.declared.checked.Uncleaned.{Uncleaned}
use Rattle.cleaning.proofs.Numbers.{points-numbers}
use Rattle.cleaning.proofs.Made.{first_numbers, first_length}
use Rattle.errors.specs.Lists.{last_of}
use Rattle.partitioning.specs.Walk.{ends_of, is_empty, walked, with_end, given_between, given_of}
use Rattle.partitioning.specs.Code.{Walkable, enough_between, AreGiven, Laid}
use Rattle.partitioning.specs.declared.Ends.{Ends}
use Rattle.partitioning.proofs.WalkLaws.{walked-most}
use Rattle.partitioning.proofs.EndsLaws.{ends_are, walkable}

-- ---- how many points are given

-- the end's point is one more at most
with_end-count : (tol : Float) (q p : Point2) (ps : List Point2) → (1 ≤ length (with_end tol q p ps)) × (length (with_end tol q p ps) ≤ length ps + 2)
with_end-count tol q p ps = go (lt tol (plain_dist q (last_of p ps)))
  where
    go : (b : Bool) → (1 ≤ length (cond b (p ∷ (ps ++ (q ∷ []))) (p ∷ ps))) × (length (cond b (p ∷ (ps ++ (q ∷ []))) (p ∷ ps)) ≤ length ps + 2)
    go true = (omega arith, omega (arith, length-append ps (q ∷ [])))
    go false = (omega arith, omega arith)

-- One more than the section's at most.
pub between-count : (ns : List Float) (tol : Float) (e : Ends) (ps : List Point2) → Walkable ns tol e → given_between ns tol e ≡ Ok ps → (1 ≤ length ps) × (2 * length ps ≤ length ns + 2)
unfolding given_between
between-count ns tol e ps k h = go (walked ns tol e) refl h
  where
    go : (a : Answer (List Point2)) → walked ns tol e ≡ a → (a >>= λ qs. Ok (with_end tol e.end.point e.start.point qs)) ≡ Ok ps → (1 ≤ length ps) × (2 * length ps ≤ length ns + 2)
    go (Err r) p h = let z : ◌≡◌ {A = ℕ} 0 1 = cc in absurd (omega arith)
    go (Ok qs) p h =
        let is : with_end tol e.end.point e.start.point qs ≡ ps = cc in
        let c = with_end-count tol e.end.point e.start.point qs in
        let m = walked-most ns tol e qs k p in
        rw (← is) (c.0, omega (arith, c.1, m))

-- ---- points that stand in the array

pub record Standing (given : Answer (List Point2)) (old new : List Float) (count : ℕ) : Type 0 where
  pub points : List Point2
  pub are : given ≡ Ok points
  pub counted : count ≡ length points
  pub stand : new ≡ placed points old

pub standing : (given : Answer (List Point2)) (old new : List Float) (count : ℕ) → Laid given old new (Ok count) → Standing given old new count
standing (Err r) old new count l = let c = l.counted in let z : ◌≡◌ {A = ℕ} 0 1 = cc in absurd (omega arith)
standing (Ok ps) old new count l = let c = l.counted in record { points = ps; are = refl; counted = cc; stand = l.stand ps refl }

module _ {given : Answer (List Point2)} (old new : List Float) (count : ℕ) (s : Standing given old new count) where
  twice : 2 * count ≡ 2 * length s.points
  twice = ap (λ (n : ℕ). 2 * n) s.counted

  pub numbers_long : length (take (2 * count) new) ≡ 2 * count
  numbers_long = first_length old s.points (2 * count) new twice s.stand

  pub numbers-points : points_of (take (2 * count) new) ≡ s.points
  numbers-points = rw (first_numbers old s.points (2 * count) new twice s.stand) (points-numbers s.points)

refusal_is : (given : Answer (List Point2)) (old new : List Float) (r : Refusal) → Laid given old new (Err r) → given ≡ Err r
refusal_is (Err s) old new r l = let c = l.counted in cc
refusal_is (Ok ps) old new r l = let c = l.counted in let z : ◌≡◌ {A = ℕ} 0 1 = cc in absurd (omega arith)

-- ---- enough of them

pub none_given : {given : Answer (List Point2)} (tol : Float) (r : Refusal) → given ≡ Err r → AreGiven given tol (Err r)
none_given tol r e = record { points = sym e; tolerance = tt }

module _ (ns : List Float) (tol : Float) (e : Ends) (old new : List Float) where
  pub enough_refused : (r : Refusal) → Laid (given_between ns tol e) old new (Err r) → AreGiven (enough_between ns tol e) tol (Err r)
  unfolding enough_between
  enough_refused r l = none_given tol r (rw (refusal_is (given_between ns tol e) old new r l))

  module _ (k : Walkable ns tol e) (count : ℕ) (l : Laid (given_between ns tol e) old new (Ok count)) where
    there : Standing (given_between ns tol e) old new count
    there = standing (given_between ns tol e) old new count l

    pub count_is : (1 ≤ count) × (2 * count ≤ length ns + 2)
    count_is = rw there.counted (between-count ns tol e there.points k there.are)

    pub there_long : length (take (2 * count) new) ≡ 2 * count
    there_long = numbers_long old new count there

    module _ (few : Bool) (f : few ≡ ltb (length (kept tol (points_of (take (2 * count) new)))) 2) where
      few_is : few ≡ ltb (length (kept tol there.points)) 2
      few_is = rw (numbers-points old new count there) at f

      pub enough_few : few ≡ true → AreGiven (enough_between ns tol e) tol (Err EmptyStretch)
      unfolding enough_between
      enough_few t = none_given tol EmptyStretch (rw (there.are, sym few_is ∙ t))

      pub enough : few ≡ false → (u : Uncleaned) → u.points.now ≡ take (2 * count) new → u.tol ≡ tol → AreGiven (enough_between ns tol e) tol (Ok u)
      unfolding enough_between
      enough t u p q = record { points = rw (p, numbers-points old new count there, there.are, sym few_is ∙ t); tolerance = q }

-- ---- by the two lengths

module _ (ns : List Float) (tol l0 l1 : Float) where
  pub given_no_ends : (r : Refusal) → ends_of ns tol l0 l1 ≡ Err r → AreGiven (given_of ns tol l0 l1) tol (Err r)
  unfolding given_of
  given_no_ends r f = none_given tol r (rw f)

  module _ (e : Ends) (f : ends_of ns tol l0 l1 ≡ Ok e) where
    pub given_empty : is_empty ns tol l0 l1 e ≡ true → AreGiven (given_of ns tol l0 l1) tol (Err EmptyStretch)
    unfolding given_of
    given_empty g = none_given tol EmptyStretch (rw (f, g))

    pub given-ends : is_empty ns tol l0 l1 e ≡ false → enough_between ns tol e ≡ given_of ns tol l0 l1
    unfolding given_of enough_between
    given-ends g = rw (f, g)

    pub given_walkable : IsSection ns tol → fits binary64 l0 ≡ true → fits binary64 l1 ≡ true → is_empty ns tol l0 l1 e ≡ false → Walkable ns tol e
    given_walkable sec fit0 fit1 g = walkable ns tol l0 l1 e sec (rw fit0 tt) (rw fit1 tt) (ends_are ns tol l0 l1 e f) g
