-- The points that the cleaning is given stand in the array, and are counted. Assumes nothing.
use mathlib.Core.Path.{◌≡◌, refl, sym, ap, ◌∙◌}
use mathlib.Core.Bool.{true, false}
use mathlib.Core.List.{List, [], ◌∷◌, ◌++◌}
use Prim.Native.Nat.{ℕ, ◌+◌, ◌*◌, ◌≤◌}
use native.Mathlib.Omega.{arith}
use lib.ListN.{length}
use lib.Ieee.{Float, lt}
use Rattle.std.specs.Prelude.{Ok, Err}
use Rattle.errors.specs.Answer.{Answer, ◌>>=◌}
use Rattle.errors.specs.Lists.{last_of}
use Rattle.errors.specs.declared.Refusal.{Refusal}
use Rattle.points.specs.declared.Point2.{Point2}
use Rattle.curve2.specs.Section.{plain_dist}
use Rattle.cleaning.specs.Cleaning.{placed}
use Rattle.cleaning.specs.Code.{Held, put, holding, last_point}
use Rattle.cleaning.proofs.HeldLaws.{put-holding}
use Rattle.cleaning.proofs.Made.{held-count, held-output}
use Rattle.partitioning.specs.Walk.{walked, with_end, given_between}
use Rattle.partitioning.specs.Code.{Walkable, put_on, walk_onto, Laid}
use Rattle.partitioning.specs.declared.Ends.{Ends}
use Rattle.partitioning.proofs.WalkLaws.{walked-most, put_first}

same : {A : Type 0} (a b : A) → ◌≡◌ {A = Answer A} (Ok a) (Ok b) → a ≡ b
same a b e = cc

pub laid_refused : {given : Answer (List Point2)} (old new : List Float) (r : Refusal) → given ≡ Err r → Laid given old new (Err r)
laid_refused old new r e = record { counted = rw e; stand = λ ps f. (let z : ◌≡◌ {A = ℕ} 0 1 = cc in absurd (omega arith)) }

pub laid_held : {given : Answer (List Point2)} (old : List Float) (ps : List Point2) (h : Held) → given ≡ Ok ps → h ≡ holding old ps → Laid given old h.output (Ok h.kept.count)
laid_held old ps h e f =
    record { counted = rw (e, held-count old ps h f); stand = λ qs g. held-output old ps h f ∙ ap (λ (l : List Point2). placed l old) (same ps qs (sym e ∙ g)) }

put-behind : (old : List Float) (ps : List Point2) (q : Point2) (h h₂ : Held) → h ≡ holding old ps → h₂ ≡ put h.kept.count q h.output → 2 * length ps + 2 ≤ length old
    → h₂ ≡ holding old (ps ++ (q ∷ []))
put-behind old ps q h h₂ e p room = p ∙ rw (held-count old ps h e, held-output old ps h e) (put-holding old ps q room)

module _ (ns : List Float) (tol : Float) (e : Ends) (old : List Float) where
  pub given-refused : (new : List Float) (r : Refusal) → Err r ≡ walk_onto ns tol e (put 0 e.start.point old) → Laid (given_between ns tol e) old new (Err r)
  unfolding walk_onto given_between
  given-refused new r f = laid_refused old new r (go (walked ns tol e) f)
    where
      go : (a : Answer (List Point2)) → Err r ≡ (a >>= λ ps. Ok (put_on (put 0 e.start.point old) ps)) → (a >>= λ ps. Ok (with_end tol e.end.point e.start.point ps)) ≡ Err r
      go (Err s) g = cc
      go (Ok ps) g = let z : ◌≡◌ {A = ℕ} 0 1 = cc in absurd (omega arith)

  -- what the walk put
  pub record Walked (h : Held) : Type 0 where
    pub points : List Point2
    pub are : walked ns tol e ≡ Ok points
    pub held : h ≡ holding old (e.start.point ∷ points)

  module _ (k : Walkable ns tol e) (room : length ns + 2 ≤ length old) (h : Held) (f : Ok h ≡ walk_onto ns tol e (put 0 e.start.point old)) where
    there : Walked h
    unfolding walk_onto
    there = go (walked ns tol e) refl f
      where
        go : (a : Answer (List Point2)) → walked ns tol e ≡ a → Ok h ≡ (a >>= λ ps. Ok (put_on (put 0 e.start.point old) ps)) → Walked h
        go (Err s) p g = let z : ◌≡◌ {A = ℕ} 0 1 = cc in absurd (omega arith)
        go (Ok ps) p g =
            record { points = ps; are = p; held = same h _ g ∙ put_first old e.start.point ps (omega (arith, room, walked-most ns tol e ps k p)) }

    count_is : h.kept.count ≡ length (e.start.point ∷ there.points)
    count_is = held-count old (e.start.point ∷ there.points) h there.held

    last_is : h.kept.last ≡ last_of e.start.point there.points
    unfolding holding last_point
    last_is = ap (λ (x : Held). x.kept.last) there.held

    pub given_room : 2 * h.kept.count + 2 ≤ length old
    given_room = omega (arith, count_is, room, walked-most ns tol e there.points k there.are)

    pub end_near : lt tol (plain_dist e.end.point h.kept.last) ≡ false → Laid (given_between ns tol e) old h.output (Ok h.kept.count)
    unfolding given_between
    end_near g = laid_held old (e.start.point ∷ there.points) h (rw (there.are, sym (ap (λ (p : Point2). lt tol (plain_dist e.end.point p)) last_is) ∙ g)) there.held

    pub end_far : lt tol (plain_dist e.end.point h.kept.last) ≡ true → (h₂ : Held) → h₂ ≡ put h.kept.count e.end.point h.output
        → Laid (given_between ns tol e) old h₂.output (Ok h₂.kept.count)
    unfolding given_between
    end_far g h₂ p =
        laid_held old (e.start.point ∷ (there.points ++ (e.end.point ∷ []))) h₂
        (rw (there.are, sym (ap (λ (p : Point2). lt tol (plain_dist e.end.point p)) last_is) ∙ g))
        (put-behind old (e.start.point ∷ there.points) e.end.point h h₂ there.held p (omega (arith, count_is, given_room)))
