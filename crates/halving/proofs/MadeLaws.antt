-- Every circle that is made passes the test of 2 that a circle handed in must pass: its numbers are finite, and neither its radius nor a length along is below zero. Assumes nothing.
use mathlib.Core.Path.{◌≡◌, refl, sym, ◌∙◌}
use mathlib.Core.Bool.{Bool, true, false, ◌&&◌, ◌||◌, cond, true≢false}
use mathlib.Core.List.{List, [], ◌∷◌}
use Prim.Native.Nat.{ℕ, zero, suc, ◌+◌, ◌*◌, ◌<◌}
use native.Mathlib.Nat.{zero-mul}
use native.Mathlib.Omega.{arith}
use borrow.Author.Tests.{ltb-true, lt-ltb, le-ltb}
use lib.Dec.{T, ltb, eqb}
use lib.Ieee.{Float, nan, inf, fin, up, down, lt, le, eq, of_bits}
use lib.Ieee.Bits.{is_true}
use lib.Ieee.Scale.{finite}
use Rattle.std.specs.Prelude.{Ok, Err}
use Rattle.errors.specs.Answer.{Answer, ◌>>=◌}
use Rattle.errors.specs.declared.Refusal.TheVariants.{TooLong}
use Rattle.points.specs.Numbers.{◌+f◌, ◌-f◌, ◌*f◌, ◌/f◌, f0, f½, f1}
use Rattle.points.specs.Points.{minus, moved, dot_of, norm_of, dist_of}
use Rattle.points.specs.Closest.{fraction_on, held_point, held, measured_to, closest_on_edge}
use Rattle.points.specs.declared.Point2.{Point2}
use Rattle.points.specs.declared.segment2.EdgePoint.{EdgePoint}
use Rattle.points.proofs.Plus.{plus, add-finite, sub-finite, mul-finite, plus-not_below, plus-add, plus-mul, plus-sub}
use Rattle.points.proofs.Distances.{FinitePoint, watched-finite, point-finite, square-finite, Near, zero_near, dist_near, mean_near}
use Rattle.line2.specs.Lines.{at_param}
use Rattle.line2.specs.declared.Line2.{Line2}
use Rattle.curve2.specs.Entry.{IsSection}
use Rattle.curve2.specs.Stations.{last_vertex}
use Rattle.queries.specs.Hits.{Edge, section_edges}
use Rattle.queries.specs.Nearest.{nearest, closest_on_all, least_of, least_of_all, nearest_of}
use Rattle.queries.specs.declared.Nearest.{Nearest}
use Rattle.queries.proofs.ClosestLaws.{nearest_below}
use Rattle.sections.specs.Places.{length_at, length_along, lengths_along, closest_lengths}
use Rattle.sections.specs.declared.LengthPair.{LengthPair}
use Rattle.sections.proofs.RisingLaws.{length_rises, length-plus}
use Rattle.inscribed.specs.Circles.{inscribed}
use Rattle.inscribed.specs.Store.{bad_length, bad_circle}
use Rattle.inscribed.specs.declared.Inscribed.{Inscribed}
use Rattle.halving.specs.Halving.{SearchEnds, search_end, halved, circle_between, is_wide, halving, most_halvings, two_to_minus52, resolve_tol, first_ends, halved_from, from_line}
use Rattle.halving.specs.declared.bisection.InscribedEnd.{InscribedEnd}
use Rattle.errors.proofs.Laws.{given}

-- ---- a point on a line, and a nearest point with its fraction

param_finite : (l : Line2) (t : Float) (p : Point2) → at_param l t ≡ Ok p → FinitePoint p
unfolding at_param
param_finite l t p e = point-finite (moved l.origin l.direction t) p e

abbrev Good : EdgePoint → Type 0
Good q = FinitePoint q.point × T (plus q.fraction)

above_zero : (s : Float) → T (finite s) → le s f0 ≡ false → T (plus s)
unfolding le lt eq of_bits
above_zero nan t e = absurd t
above_zero (inf s) t e = absurd t
above_zero (fin false m d) t e = tt
above_zero (fin true m d) t e = absurd (true≢false (sym (low_or_zero (m * up d * 1) (0 * 1 * down d) (zero-mul (down d))) ∙ e))
  where
    low_or_zero : (a b : ℕ) → b ≡ 0 → (ltb 0 (a + b) || (eqb a b && (false || eqb a 0))) ≡ true
    low_or_zero zero b z = rw z
    low_or_zero (suc a) b z = rw (lt-ltb 0 (suc a + b) (omega arith))

held-plus : (s : Float) → T (finite s) → T (plus (held s))
unfolding of_bits
held-plus s t = go (le s f0) (le f1 s) refl
  where
    go : (a b : Bool) → le s f0 ≡ a → T (plus (cond a f0 (cond b f1 s)))
    go true b e = tt
    go false true e = tt
    go false false e = above_zero s t e

fraction-finite : (p a b : Point2) (s : Float) → fraction_on p a b ≡ Ok s → T (finite s)
unfolding fraction_on
fraction-finite p a b s e =
    let one = given (dot_of (minus p a) (minus b a)) _ s e in
    let two = given (dot_of (minus b a) (minus b a)) _ s one.gives in
    let w = watched-finite (one.value /f two.value) s two.gives in
    rw (← w.0) w.1

edge_good : (p a b : Point2) (q : EdgePoint) → closest_on_edge p a b ≡ Ok q → Good q
unfolding closest_on_edge measured_to
edge_good p a b q e =
    let one = given (fraction_on p a b) _ q e in
    let two = given (held_point a b one.value) _ q one.gives in
    let r = two.value in
    let three = given (dot_of (minus p r) (minus p r)) _ q two.gives in
    let w = square-finite (minus p r) three.value three.is in
    let xy = add-finite ((p.x -f r.x) *f (p.x -f r.x)) ((p.y -f r.y) *f (p.y -f r.y)) w.1 in
    let x = sub-finite p.x r.x (mul-finite (p.x -f r.x) (p.x -f r.x) xy.0).0 in
    let y = sub-finite p.y r.y (mul-finite (p.y -f r.y) (p.y -f r.y) xy.1).0 in
    let is : q ≡ record { point = r; fraction = held one.value; square = three.value } = cc three.gives in
    rw is ((x.1, y.1), held-plus one.value (fraction-finite p a b one.value one.is))

abbrev AllGood : List EdgePoint → Type 0
AllGood [] = Unit {0}
AllGood (q ∷ qs) = Good q × AllGood qs

all_good : (p : Point2) (es : List Edge) (qs : List EdgePoint) → closest_on_all p es ≡ Ok qs → AllGood qs
unfolding closest_on_all
all_good p [] qs h = let z : qs ≡ [] = cc in rw z tt
all_good p (e ∷ es) qs h =
    let one = given (closest_on_edge p e.a e.b) _ qs h in
    let two = given (closest_on_all p es) _ qs one.gives in
    let z : qs ≡ one.value ∷ two.value = cc two.gives in
    rw z (edge_good p e.a e.b one.value one.is, all_good p es two.value two.is)

least_good : (best : Nearest) (i : ℕ) (qs : List EdgePoint) → Good best.at → AllGood qs → Good (least_of best i qs).at
unfolding least_of
least_good best i [] g gs = g
least_good best i (q ∷ qs) g gs = let b = lt q.square best.at.square in least_good (cond b (nearest i q) best) (suc i) qs (go b) gs.1
  where
    go : (b : Bool) → Good (cond b (nearest i q) best).at
    go true = gs.0
    go false = g

nearest_good : (ns : List Float) (p : Point2) (n : Nearest) → nearest_of ns p ≡ Ok n → Good n.at
unfolding nearest_of least_of_all
nearest_good ns p n e = let one = given (closest_on_all p (section_edges ns)) _ n e in go one.value (all_good p (section_edges ns) one.value one.is) one.gives
  where
    go : (qs : List EdgePoint) → AllGood qs → least_of_all qs ≡ Ok n → Good n.at
    go [] gs t = let z : ◌≡◌ {A = ℕ} 0 1 = cc in absurd (omega arith)
    go (q ∷ qs) gs t = let z : n ≡ least_of (nearest 0 q) 1 qs = cc in rw z (least_good (nearest 0 q) 1 qs gs.0 gs.1)

-- ---- a nearest point's length along is not below zero

not_above : (x y : Float) → T (plus x) → T (plus y) → lt x y ≡ true → lt y x ≡ false
unfolding lt
not_above nan y p q h = absurd p
not_above (inf true) y p q h = absurd p
not_above (inf false) nan p q h = absurd q
not_above (inf false) (inf t) p q h = absurd (true≢false (sym h))
not_above (inf false) (fin t n d) p q h = absurd (true≢false (sym h))
not_above (fin true m e) y p q h = absurd p
not_above (fin false m e) nan p q h = absurd q
not_above (fin false m e) (inf true) p q h = absurd q
not_above (fin false m e) (inf false) p q h = refl
not_above (fin false m e) (fin true n d) p q h = absurd q
not_above (fin false m e) (fin false n d) p q h = le-ltb (n * up d * down e) (m * up e * down d) (omega (arith, ltb-true (m * up e * down d) (n * up d * down e) h))

abbrev FinitePlus : Float → Type 0
FinitePlus x = T (finite x) × T (plus x)

module _ (ns : List Float) (tol : Float) (sec : IsSection ns tol) where
  length_good : (i : ℕ) (f l : Float) → i < last_vertex ns → T (plus f) → length_along ns i f ≡ Ok l → FinitePlus l
  unfolding length_along
  length_good i f l h p e =
      let m = length_at ns i in
      let n = length_at ns (i + 1) in
      let w = watched-finite (m +f (n -f m) *f f) l e in
      let two = add-finite m ((n -f m) *f f) w.1 in
      let three = mul-finite (n -f m) f two.1 in
      let pm = length-plus ns tol sec i (omega (arith, h)) in
      let pn = length-plus ns tol sec (i + 1) (omega (arith, h)) in
      let pd = plus-sub n m pn pm (not_above m n pm pn (length_rises ns tol sec i h)) three.0 in
      let pw = plus-mul (n -f m) f pd p two.1 in
      rw (← w.0) (w.1, plus-add m ((n -f m) *f f) pm pw w.1)

  lengths_good : (p q : Point2) (ls : LengthPair) → closest_lengths ns p q ≡ Ok ls → FinitePlus ls.first × FinitePlus ls.second
  unfolding closest_lengths lengths_along
  lengths_good p q ls e =
      let one = given (nearest_of ns p) _ ls e in
      let two = given (nearest_of ns q) _ ls one.gives in
      let a = one.value in
      let b = two.value in
      let three = given (length_along ns a.index a.at.fraction) _ ls two.gives in
      let four = given (length_along ns b.index b.at.fraction) _ ls three.gives in
      let is : ls ≡ record { first = three.value; second = four.value } = cc four.gives in
      rw is (
        length_good a.index a.at.fraction three.value (nearest_below ns p a one.is) (nearest_good ns p a one.is).1 three.is,
        length_good b.index b.at.fraction four.value (nearest_below ns q b two.is) (nearest_good ns q b two.is).1 four.is,
      )

  -- ---- the two ends of the halving, and the circle between them

  record GoodEnds (e : SearchEnds) : Type 0 where
    upper : FinitePoint e.pos.p
    lower : FinitePoint e.neg.p
    upper_near : Near e.pos.d
    lower_near : Near e.neg.d

  first_good : (l : Line2) (p1 p0 : Point2) → at_param l f1 ≡ Ok p1 → at_param l f0 ≡ Ok p0 → GoodEnds (first_ends p1 p0)
  first_good l p1 p0 a b = record { upper = param_finite l f1 p1 a; lower = param_finite l f0 p0 b; upper_near = zero_near; lower_near = zero_near }

  halved_good : (l : Line2) (e next : SearchEnds) → GoodEnds e → halved ns l e ≡ Ok next → GoodEnds next
  unfolding halved
  halved_good l e next g h =
      let fraction = (e.pos.f +f e.neg.f) *f f½ in
      let one = given (at_param l fraction) _ next h in
      let two = given (nearest_of ns one.value) _ next one.gives in
      let p = two.value.at.point in
      let three = given (dist_of one.value p) _ next two.gives in
      let four = given (dot_of (minus p one.value) l.direction) _ next three.gives in
      go (lt f0 four.value) (search_end fraction three.value p) (nearest_good ns one.value two.value two.is).0 (dist_near one.value p three.value three.is) four.gives
    where
      go : (b : Bool) (end : InscribedEnd) → FinitePoint end.p → Near end.d → ◌≡◌ {A = Answer SearchEnds} (Ok (cond b (record { pos = end; neg = e.neg }) (record { pos = e.pos; neg = end }))) (Ok next) → GoodEnds next
      go true end u v q = let s : next ≡ record { pos = end; neg = e.neg } = cc in rw s (record { upper = u; lower = g.lower; upper_near = v; lower_near = g.lower_near })
      go false end u v q = let s : next ≡ record { pos = e.pos; neg = end } = cc in rw s (record { upper = g.upper; lower = u; upper_near = g.upper_near; lower_near = v })

  good_point : (p : Point2) → FinitePoint p → (finite p.x && finite p.y) ≡ true
  good_point p g = rw (is_true (finite p.x) g.0, is_true (finite p.y) g.1)

  good_length : (x : Float) → FinitePlus x → bad_length x ≡ false
  good_length x g = rw (is_true (finite x) g.0, plus-not_below x g.1)

  circle_good : (l : Line2) (e : SearchEnds) (c : Inscribed) → GoodEnds e → circle_between ns l e ≡ Ok c → bad_circle c ≡ false
  unfolding circle_between bad_circle
  circle_good l e c g h =
      let one = given (at_param l ((e.pos.f +f e.neg.f) *f f½)) _ c h in
      let two = given (closest_lengths ns e.neg.p e.pos.p) _ c one.gives in
      let o = param_finite l ((e.pos.f +f e.neg.f) *f f½) one.value one.is in
      let r = mean_near e.pos.d e.neg.d g.upper_near g.lower_near in
      let along = lengths_good e.neg.p e.pos.p two.value two.is in
      let is : c ≡ inscribed one.value ((e.pos.d +f e.neg.d) *f f½) e.neg.p e.pos.p two.value.first two.value.second = cc two.gives in
      rw (is, good_point one.value o, good_point e.neg.p g.lower, good_point e.pos.p g.upper, good_length ((e.pos.d +f e.neg.d) *f f½) r, good_length two.value.first along.0, good_length two.value.second along.1)

  halving_good : (l : Line2) (resolve len : Float) (fuel : ℕ) (e : SearchEnds) (c : Inscribed) → GoodEnds e → halving ns l resolve len fuel e ≡ Ok c → bad_circle c ≡ false
  unfolding halving
  halving_good l resolve len zero e c g h = circle_good l e c g h
  halving_good l resolve len (suc fuel) e c g h = go (is_wide resolve len e) (λ next gn hn. halving_good l resolve len fuel next c gn hn) h
    where
      go : (b : Bool) → ((next : SearchEnds) → GoodEnds next → halving ns l resolve len fuel next ≡ Ok c → bad_circle c ≡ false) → cond b (halved ns l e >>= λ next. halving ns l resolve len fuel next) (circle_between ns l e) ≡ Ok c → bad_circle c ≡ false
      go false ih h = circle_good l e c g h
      go true ih h = let one = given (halved ns l e) _ c h in ih one.value (halved_good l e one.value g one.is) one.gives

  -- the circle of a line, so every circle that is made
  pub made_passes : (general : Float) (l : Line2) (c : Inscribed) → from_line ns general l ≡ Ok c → bad_circle c ≡ false
  unfolding from_line halved_from
  made_passes general l c e =
      let one = given (norm_of l.direction) _ c e in
      go one.value (lt (resolve_tol general) (two_to_minus52 *f one.value)) one.gives
    where
      go : (len : Float) (b : Bool) → cond b (Err TooLong) (halved_from ns l (resolve_tol general) len) ≡ Ok c → bad_circle c ≡ false
      go len true h = let z : ◌≡◌ {A = ℕ} 0 1 = cc in absurd (omega arith)
      go len false h =
          let one = given (at_param l f1) _ c h in
          let two = given (at_param l f0) _ c one.gives in
          halving_good l (resolve_tol general) len most_halvings (first_ends one.value two.value) c (first_good l one.value two.value one.is two.is) two.gives
