-- The slots in which the kept circles stood before: which are dropped between two of them, and why each of them stays. Assumes nothing.
use mathlib.Core.Path.{◌≡◌, refl}
use mathlib.Core.List.{List, [], ◌∷◌}
use mathlib.Core.Logic.{inl, inr, ⊎_elim}
use Rattle.std.specs.Prelude.{None, Ok}
use Prim.Native.Nat.{ℕ, zero, suc, ◌+◌, ◌≤◌, ◌<◌}
use native.Mathlib.Omega.{arith}
use lib.ListN.{length, get_or}
use lib.Ieee.{Float}
use Rattle.std.proofs.Math.Nat.{eq-or-lt_of_le}
use Rattle.circles.specs.Trial.{trial}
use Rattle.inscribed.specs.Store.{circle_at, circles_from}
use Rattle.inscribed.specs.declared.Inscribed.{Inscribed}
use Rattle.refine.specs.ThinLaw.{Adds}
use Rattle.refine.proofs.ThinLaws.{Keeps}

module _ (ns : List Float) (tol : Float) (old : List Float) where
  -- the slots of a, which stood in slot p, and of the circles `more`, which stood in those from n on; circle i of them, by its number
  pub record Placed (p n m : ℕ) (a : Inscribed) (more : List Inscribed) : Type 0 where
    pub place : ℕ → ℕ
    pub first : place 0 ≡ p
    pub last : place (length more) + 1 ≡ n + m
    pub in_order : (i : ℕ) → i < length more → place i < place (suc i)
    pub moved : (i : ℕ) (d : Inscribed) → i ≤ length more → get_or (a ∷ more) i d ≡ circle_at old (place i)
    pub dropped_first : (k : ℕ) → 0 < length more → n ≤ k → k < place 1 → trial ns tol a (circle_at old (k + 1)) ≡ Ok None
    pub dropped : (i k : ℕ) (d : Inscribed) → suc i < length more → place (suc i) < k → k < place (suc (suc i)) → trial ns tol (get_or more i d) (circle_at old (k + 1)) ≡ Ok None
    pub stays : (i : ℕ) (d : Inscribed) → suc i < length more → Adds (trial ns tol (get_or (a ∷ more) i d) (circle_at old (place (suc i) + 1)))

  -- one place in front of others
  abbrev one_place_more : ℕ → (ℕ → ℕ) → ℕ → ℕ
  one_place_more p f zero = p
  one_place_more p f (suc i) = f i

  module _ (p n m : ℕ) (a : Inscribed) (more : List Inscribed) where
    -- the circle in slot n is dropped
    placed_drop : trial ns tol a (circle_at old (suc n)) ≡ Ok None → Placed p (suc n) m a more → Placed p n (suc m) a more
    placed_drop e q = record {
      place = q.place;
      first = q.first;
      last = omega (arith, q.last);
      in_order = q.in_order;
      moved = q.moved;
      dropped_first = λ k h l g. ⊎_elim (λ s. let z : k + 1 ≡ suc n = omega (arith, s) in rw z e) (λ s. q.dropped_first k h (omega (arith, s)) g) (eq-or-lt_of_le l);
      dropped = q.dropped;
      stays = q.stays;
    }

    -- the circle in slot n is kept, behind a
    placed_keep : (b : Inscribed) → b ≡ circle_at old n → a ≡ circle_at old p → p < n → Adds (trial ns tol a (circle_at old (suc n))) → Placed n (suc n) m b more → Placed p n (suc m) a (b ∷ more)
    placed_keep b e f h d q = record {
      place = one_place_more p q.place;
      first = refl;
      last = omega (arith, q.last);
      in_order = in_order;
      moved = moved;
      dropped_first = λ k h l g. absurd (omega (arith, l, g, q.first));
      dropped = dropped;
      stays = stays;
    }
      where
        in_order : (i : ℕ) → i < suc (length more) → one_place_more p q.place i < q.place i
        in_order zero g = omega (arith, h, q.first)
        in_order (suc i) g = q.in_order i (omega (arith, g))

        moved : (i : ℕ) (c : Inscribed) → i ≤ suc (length more) → get_or (a ∷ (b ∷ more)) i c ≡ circle_at old (one_place_more p q.place i)
        moved zero c g = f
        moved (suc i) c g = q.moved i c (omega (arith, g))

        dropped : (i k : ℕ) (c : Inscribed) → suc i < suc (length more) → q.place i < k → k < q.place (suc i) → trial ns tol (get_or (b ∷ more) i c) (circle_at old (k + 1)) ≡ Ok None
        dropped zero k c g l u = q.dropped_first k (omega (arith, g)) (omega (arith, l, q.first)) u
        dropped (suc i) k c g l u = q.dropped i k c (omega (arith, g)) l u

        stays : (i : ℕ) (c : Inscribed) → suc i < suc (length more) → Adds (trial ns tol (get_or (a ∷ (b ∷ more)) i c) (circle_at old (q.place i + 1)))
        stays zero c g = let z : q.place 0 + 1 ≡ suc n = omega (arith, q.first) in rw z d
        stays (suc i) c g = q.stays i c (omega (arith, g))

  pub placed : (m n p : ℕ) (a : Inscribed) (more : List Inscribed) → a ≡ circle_at old p → p < n → (m ≡ 0 → suc p ≡ n) → Keeps ns tol a (circles_from old n m) more → Placed p n m a more
  unfolding circles_from
  placed zero n p a more e h z k = rw k (none (z refl))
    where
      none : suc p ≡ n → Placed p n 0 a []
      none q = record {
        place = λ i. p;
        first = refl;
        last = omega (arith, q);
        in_order = λ i g. absurd (omega (arith, g));
        moved = moved;
        dropped_first = λ j g l u. absurd (omega (arith, g));
        dropped = λ i j c g l u. absurd (omega (arith, g));
        stays = λ i c g. absurd (omega (arith, g));
      }
        where
          moved : (i : ℕ) (c : Inscribed) → i ≤ 0 → get_or (a ∷ []) i c ≡ circle_at old p
          moved zero c g = e
          moved (suc i) c g = absurd (omega (arith, g))
  placed (suc zero) n p a more e h z k = rw k one
    where
      moved : (i : ℕ) (c : Inscribed) → i ≤ 1 → get_or (a ∷ (circle_at old n ∷ [])) i c ≡ circle_at old (one_place_more p (λ j. n) i)
      moved zero c g = e
      moved (suc zero) c g = refl
      moved (suc (suc i)) c g = absurd (omega (arith, g))

      in_order : (i : ℕ) → i < 1 → one_place_more p (λ j. n) i < n
      in_order zero g = h
      in_order (suc i) g = absurd (omega (arith, g))

      one : Placed p n 1 a (circle_at old n ∷ [])
      one = record {
        place = one_place_more p (λ i. n);
        first = refl;
        last = refl;
        in_order = in_order;
        moved = moved;
        dropped_first = λ j g l u. absurd (omega (arith, l, u));
        dropped = λ i j c g l u. absurd (omega (arith, g));
        stays = λ i c g. absurd (omega (arith, g));
      }
  placed (suc (suc m)) n p a more e h z (inl k) = placed_drop p n (suc m) a more k.0 (placed (suc m) (suc n) p a more e (omega (arith, h)) (λ q. absurd (omega (arith, q))) k.1)
  placed (suc (suc m)) n p a more e h z (inr k) =
      rw k.2 (placed_keep p n (suc m) a k.1 (circle_at old n) refl e h k.0 (placed (suc m) (suc n) n (circle_at old n) k.1 refl (omega arith) (λ q. absurd (omega (arith, q))) k.3))
