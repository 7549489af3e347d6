-- 52 halvings are enough. After k of them the ends are neighbouring fractions of 2 ^ k, exactly; after 52 their distance times the length is what 10 has asked. Assumes nothing.
use mathlib.Core.Path.{◌≡◌, refl, sym, ap, ◌∙◌, subst}
use mathlib.Core.Bool.{Bool, true, false, cond}
use mathlib.Core.List.{List}
use mathlib.Core.Logic.{◌⊎◌, inl, inr, ⊎_elim}
use Prim.Native.Nat.{ℕ, zero, suc, ◌+◌, ◌^◌, ◌≤◌, ◌<◌}
use native.Mathlib.Nat.{suc-add, zero-add}
use native.Mathlib.Omega.{arith}
use lib.Ieee.{Float, lt}
use Rattle.std.specs.Prelude.{Ok, Err}
use Rattle.errors.specs.Answer.{Answer, ◌>>=◌}
use Rattle.errors.proofs.Laws.{given}
use Rattle.points.specs.Numbers.{◌+f◌, ◌*f◌, f0, f½, f1}
use Rattle.points.specs.Points.{minus, dot_of, norm_of, dist_of}
use Rattle.points.specs.declared.Point2.{Point2}
use Rattle.line2.specs.Lines.{at_param}
use Rattle.line2.specs.declared.Line2.{Line2}
use Rattle.queries.specs.Nearest.{nearest_of}
use Rattle.inscribed.specs.declared.Inscribed.{Inscribed}
use Rattle.halving.specs.Halving.{SearchEnds, search_end, halved, circle_between, is_wide, halving, two_to_minus52, resolve_tol, first_ends, from_line}
use Rattle.halving.specs.declared.bisection.InscribedEnd.{InscribedEnd}
use Rattle.halving.specs.SourceLoop.{SourceLoop, stops, refuses, goes}
use Rattle.halving.proofs.Dyadic.{dyadic, one_is_dyadic, zero_is_dyadic, last_is_dyadic, next_power, middle, apart}

-- ---- a halving puts the middle in the place of one of the fractions

abbrev middle_of : SearchEnds → Float
middle_of e = (e.pos.f +f e.neg.f) *f f½

halved_fractions : (ns : List Float) (l : Line2) (e next : SearchEnds) → halved ns l e ≡ Ok next
    → ((next.pos.f ≡ middle_of e) × (next.neg.f ≡ e.neg.f)) ⊎ ((next.pos.f ≡ e.pos.f) × (next.neg.f ≡ middle_of e))
unfolding halved
halved_fractions ns l e next h =
    let one = given (at_param l (middle_of e)) _ next h in
    let two = given (nearest_of ns one.value) _ next one.gives in
    let three = given (dist_of one.value two.value.at.point) _ next two.gives in
    let four = given (dot_of (minus two.value.at.point one.value) l.direction) _ next three.gives in
    go (lt f0 four.value) (search_end (middle_of e) three.value two.value.at.point) refl four.gives
  where
    go : (b : Bool) (end : InscribedEnd) → end.f ≡ middle_of e → ◌≡◌ {A = Answer SearchEnds} (Ok (cond b (record { pos = end; neg = e.neg }) (record { pos = e.pos; neg = end }))) (Ok next)
        → ((next.pos.f ≡ middle_of e) × (next.neg.f ≡ e.neg.f)) ⊎ ((next.pos.f ≡ e.pos.f) × (next.neg.f ≡ middle_of e))
    go true end m q = let s : next ≡ record { pos = end; neg = e.neg } = cc in inl (ap (λ (z : SearchEnds). z.pos.f) s ∙ m, ap (λ (z : SearchEnds). z.neg.f) s)
    go false end m q = let s : next ≡ record { pos = e.pos; neg = end } = cc in inr (ap (λ (z : SearchEnds). z.pos.f) s, ap (λ (z : SearchEnds). z.neg.f) s ∙ m)

-- two ways on that agree where a step gives a result
alike : {A B : Type 0} (a : Answer A) (f g : A → Answer B) → ((x : A) → a ≡ Ok x → f x ≡ g x) → (a >>= f) ≡ (a >>= g)
alike (Ok x) f g h = h x refl
alike (Err n) f g h = refl

-- ---- after k halvings

record Neighbours (k : ℕ) (e : SearchEnds) : Type 0 where
  a : ℕ
  below : a < 2 ^ k
  upper : e.pos.f ≡ dyadic (suc a) k
  lower : e.neg.f ≡ dyadic a k

first_neighbours : (p1 p0 : Point2) → Neighbours 0 (first_ends p1 p0)
first_neighbours p1 p0 = record { a = 0; below = omega arith; upper = one_is_dyadic; lower = zero_is_dyadic }

next_neighbours : (ns : List Float) (l : Line2) (k : ℕ) (e next : SearchEnds) → k ≤ 52 → Neighbours k e → halved ns l e ≡ Ok next → Neighbours (suc k) next
next_neighbours ns l k e next few n h = ⊎_elim down up (halved_fractions ns l e next h)
  where
    between_them : middle_of e ≡ dyadic (suc (n.a + n.a)) (suc k)
    between_them = rw (n.upper, n.lower) (middle n.a k n.below few)

    down : ((next.pos.f ≡ middle_of e) × (next.neg.f ≡ e.neg.f)) → Neighbours (suc k) next
    down w = record {
      a = n.a + n.a;
      below = omega (arith, n.below);
      upper = w.0 ∙ between_them;
      lower = w.1 ∙ n.lower ∙ next_power n.a k;
    }

    up : ((next.pos.f ≡ e.pos.f) × (next.neg.f ≡ middle_of e)) → Neighbours (suc k) next
    up w = record {
      a = suc (n.a + n.a);
      below = omega (arith, n.below);
      upper = w.0 ∙ n.upper ∙ next_power (suc n.a) k ∙ ap (λ (z : ℕ). dyadic z (suc k)) (omega arith);
      lower = w.1 ∙ between_them;
    }

-- ---- so 52 are enough, on a line that 10 lets pass

module _ (ns : List Float) (l : Line2) (resolve len : Float) (short : lt resolve (two_to_minus52 *f len) ≡ false) where
  narrow-at_52 : (e : SearchEnds) → Neighbours 52 e → is_wide resolve len e ≡ false
  narrow-at_52 e n = rw (n.upper, n.lower, apart n.a 52 n.below (omega arith), last_is_dyadic) short

  narrow_after : (k : ℕ) (e : SearchEnds) → k ≡ 52 → Neighbours k e → is_wide resolve len e ≡ false
  narrow_after k e s n = narrow-at_52 e (subst (λ (z : ℕ). Neighbours z e) s n)

  -- j halvings are left, after k
  over : (j k extra : ℕ) (e : SearchEnds) → j + k ≡ 52 → Neighbours k e → halving ns l resolve len (j + extra) e ≡ halving ns l resolve len j e
  unfolding halving
  over zero k zero e s n = refl
  over zero k (suc extra) e s n = rw (zero-add (suc extra), narrow_after k e (omega arith) n)
  over (suc j) k extra e s n =
      rw (suc-add j extra)
      (ap (λ (z : Answer Inscribed). cond (is_wide resolve len e) z (circle_between ns l e))
      (alike (halved ns l e) (λ next. halving ns l resolve len (j + extra) next) (λ next. halving ns l resolve len j next)
      (λ next h. over j (suc k) extra next (omega arith) (next_neighbours ns l k e next (omega arith) n h))))

  pub halving-over : (p1 p0 : Point2) (extra : ℕ) → halving ns l resolve len (52 + extra) (first_ends p1 p0) ≡ halving ns l resolve len 52 (first_ends p1 p0)
  halving-over p1 p0 extra = over 52 0 extra (first_ends p1 p0) refl (first_neighbours p1 p0)

  -- ---- the source's loop ends, in the answer of at most 52 halvings

  step : (j : ℕ) (e : SearchEnds) → ((next : SearchEnds) → halved ns l e ≡ Ok next → SourceLoop ns l resolve len next (halving ns l resolve len j next))
      → (b : Bool) → is_wide resolve len e ≡ b → (a : Answer SearchEnds) → halved ns l e ≡ a
      → SourceLoop ns l resolve len e (cond b (a >>= λ next. halving ns l resolve len j next) (circle_between ns l e))
  step j e ih false p a q = stops e p
  step j e ih true p (Err m) q = refuses e m p q
  step j e ih true p (Ok next) q = goes e next (halving ns l resolve len j next) p q (ih next q)

  loops : (j k : ℕ) (e : SearchEnds) → j + k ≡ 52 → Neighbours k e → SourceLoop ns l resolve len e (halving ns l resolve len j e)
  unfolding halving
  loops zero k e s n = stops e (narrow_after k e (omega arith) n)
  loops (suc j) k e s n = step j e (λ next h. loops j (suc k) next (omega arith) (next_neighbours ns l k e next (omega arith) n h)) (is_wide resolve len e) refl (halved ns l e) refl

  pub halving_loops : (p1 p0 : Point2) → SourceLoop ns l resolve len (first_ends p1 p0) (halving ns l resolve len 52 (first_ends p1 p0))
  halving_loops p1 p0 = loops 52 0 (first_ends p1 p0) refl (first_neighbours p1 p0)

-- the circle of a line that is neither refused nor too long is what the source's loop ends in
pub line_loops : (ns : List Float) (tol : Float) (l : Line2) (len : Float) (p1 p0 : Point2)
    → norm_of l.direction ≡ Ok len → lt (resolve_tol tol) (two_to_minus52 *f len) ≡ false → at_param l f1 ≡ Ok p1 → at_param l f0 ≡ Ok p0
    → SourceLoop ns l (resolve_tol tol) len (first_ends p1 p0) (from_line ns tol l)
unfolding from_line
line_loops ns tol l len p1 p0 n short a b = rw (n, short, a, b) (halving_loops ns l (resolve_tol tol) len short p1 p0)

-- ---- and in no other: what the loop ends in is what enough halvings give

module _ (ns : List Float) (l : Line2) (resolve len : Float) where
  record Enough (e : SearchEnds) (a : Answer Inscribed) : Type 0 where
    fuel : ℕ
    gives : (extra : ℕ) → halving ns l resolve len (fuel + extra) e ≡ a

  enough : {e : SearchEnds} {a : Answer Inscribed} → SourceLoop ns l resolve len e a → Enough e a
  unfolding halving
  enough (stops e p) = record { fuel = 1; gives = λ extra. rw (suc-add 0 extra, p) }
  enough (refuses e n p q) = record { fuel = 1; gives = λ extra. rw (suc-add 0 extra, p, q) }
  enough (goes e next a p q r) =
      let h = enough r in
      record { fuel = suc h.fuel; gives = λ extra. rw (suc-add h.fuel extra, p, q) (h.gives extra) }

  pub loop_once : (e : SearchEnds) (a b : Answer Inscribed) → SourceLoop ns l resolve len e a → SourceLoop ns l resolve len e b → a ≡ b
  loop_once e a b s t =
      let m = enough s in
      let n = enough t in
      sym (m.gives n.fuel) ∙ ap (λ (z : ℕ). halving ns l resolve len z e) (omega arith) ∙ n.gives m.fuel
