-- A law for callers: the two fractions of a crossing are in order. What is sorted rises, and dropping near hits leaves the order. Assumes nothing.
use mathlib.Core.Path.{◌≡◌, refl, sym, ◌∙◌}
use mathlib.Core.Bool.{Bool, true, false, cond}
use mathlib.Core.List.{List, [], ◌∷◌}
use Rattle.std.specs.Prelude.{Some}
use Prim.Native.Nat.{ℕ, zero, suc, ◌+◌, ◌*◌, ◌<◌}
use native.Mathlib.Nat.{lt_trans, zero-mul, zero-lt-suc, mul_right_comm, mul-pos, mul-lt-mul_of_pos_right, lt_of_mul-lt-mul_right}
use native.Mathlib.Omega.{arith}
use borrow.Author.Tests.{ltb-true, lt-ltb, le-ltb}
use lib.Ieee.{Float, nan, inf, fin, below, down, lt, up}
use lib.Ieee.Fits.{down_pos}
use Rattle.queries.specs.Hits.{inserted, sorted_into, sorted, dropped_after, dropped}
use Rattle.queries.specs.declared.Hit.{Hit}
use Rattle.queries.specs.Crossing.{Span, span, span_of}

-- ---- "below" among numbers: transitive, and no number is below itself

cross : (a b c x y z : ℕ) → 0 < x → 0 < z → a * y < b * x → b * z < c * y → a * z < c * x
cross a b c x y z hx hz p q =
    let l : a * z * y < b * z * x = rw (mul_right_comm a y z, mul_right_comm b x z) at (mul-lt-mul_of_pos_right p hz) in
    let r : b * z * x < c * x * y = rw (mul_right_comm c y x) at (mul-lt-mul_of_pos_right q hx) in
    lt_of_mul-lt-mul_right y (lt_trans l r)

pos_left : (a b n : ℕ) → n < a * b → 0 < a
pos_left zero b n h = let z = zero-mul b in absurd (omega (arith, h, z))
pos_left (suc a) b n h = zero-lt-suc a

below_chain : (s : Bool) (a x : ℕ) (t : Bool) (b y : ℕ) (r : Bool) (c z : ℕ) → 0 < x → 0 < z
    → below s (a * y) t (b * x) ≡ true → below t (b * z) r (c * y) ≡ true → below s (a * z) r (c * x) ≡ true
below_chain false a x false b y false c z hx hz p q = lt-ltb (a * z) (c * x) (cross a b c x y z hx hz (ltb-true _ _ p) (ltb-true _ _ q))
below_chain false a x false b y true c z hx hz p q = let w : ◌≡◌ {A = ℕ} 0 1 = cc in absurd (omega arith)
below_chain false a x true b y r c z hx hz p q = let w : ◌≡◌ {A = ℕ} 0 1 = cc in absurd (omega arith)
below_chain true a x false b y false c z hx hz p q =
    let d = mul-pos (pos_left c y (b * z) (ltb-true _ _ q)) hx in
    lt-ltb 0 (a * z + c * x) (omega (arith, d))
below_chain true a x false b y true c z hx hz p q = let w : ◌≡◌ {A = ℕ} 0 1 = cc in absurd (omega arith)
below_chain true a x true b y false c z hx hz p q =
    let d = mul-pos (pos_left a y (b * x) (ltb-true _ _ p)) hz in
    lt-ltb 0 (a * z + c * x) (omega (arith, d))
below_chain true a x true b y true c z hx hz p q = lt-ltb (c * x) (a * z) (cross c b a z y x hz hx (ltb-true _ _ q) (ltb-true _ _ p))

lt_chain : (a b c : Float) → lt a b ≡ true → lt b c ≡ true → lt a c ≡ true
unfolding lt
lt_chain nan b c p q = let w : ◌≡◌ {A = ℕ} 0 1 = cc in absurd (omega arith)
lt_chain (inf s) nan c p q = let w : ◌≡◌ {A = ℕ} 0 1 = cc in absurd (omega arith)
lt_chain (fin s m e) nan c p q = let w : ◌≡◌ {A = ℕ} 0 1 = cc in absurd (omega arith)
lt_chain (inf false) (inf t) c p q = let w : ◌≡◌ {A = ℕ} 0 1 = cc in absurd (omega arith)
lt_chain (inf true) (inf true) c p q = let w : ◌≡◌ {A = ℕ} 0 1 = cc in absurd (omega arith)
lt_chain (inf true) (inf false) nan p q = let w : ◌≡◌ {A = ℕ} 0 1 = cc in absurd (omega arith)
lt_chain (inf true) (inf false) (inf r) p q = let w : ◌≡◌ {A = ℕ} 0 1 = cc in absurd (omega arith)
lt_chain (inf true) (inf false) (fin r k f) p q = refl
lt_chain (inf false) (fin t n d) c p q = let w : ◌≡◌ {A = ℕ} 0 1 = cc in absurd (omega arith)
lt_chain (inf true) (fin t n d) nan p q = let w : ◌≡◌ {A = ℕ} 0 1 = cc in absurd (omega arith)
lt_chain (inf true) (fin t n d) (inf r) p q = q
lt_chain (inf true) (fin t n d) (fin r k f) p q = refl
lt_chain (fin s m e) (inf true) c p q = let w : ◌≡◌ {A = ℕ} 0 1 = cc in absurd (omega arith)
lt_chain (fin s m e) (inf false) nan p q = let w : ◌≡◌ {A = ℕ} 0 1 = cc in absurd (omega arith)
lt_chain (fin s m e) (inf false) (inf r) p q = let w : ◌≡◌ {A = ℕ} 0 1 = cc in absurd (omega arith)
lt_chain (fin s m e) (inf false) (fin r k f) p q = let w : ◌≡◌ {A = ℕ} 0 1 = cc in absurd (omega arith)
lt_chain (fin s m e) (fin t n d) nan p q = let w : ◌≡◌ {A = ℕ} 0 1 = cc in absurd (omega arith)
lt_chain (fin s m e) (fin t n d) (inf r) p q = q
lt_chain (fin s m e) (fin t n d) (fin r k f) p q = below_chain s (m * up e) (down e) t (n * up d) (down d) r (k * up f) (down f) (down_pos e) (down_pos f) p q

lt_itself : (a : Float) → lt a a ≡ false
unfolding lt
lt_itself nan = refl
lt_itself (inf true) = refl
lt_itself (inf false) = refl
lt_itself (fin true m e) = le-ltb (m * up e * down e) (m * up e * down e) (omega arith)
lt_itself (fin false m e) = le-ltb (m * up e * down e) (m * up e * down e) (omega arith)

-- a below b: whatever is not below b is not below a
not_below : (a b c : Float) → lt a b ≡ true → lt c b ≡ false → lt c a ≡ false
not_below a b c p q = go (lt c a) refl
  where
    go : (t : Bool) → lt c a ≡ t → t ≡ false
    go false e = refl
    go true e = let f = lt_chain c a b e p in let w : true ≡ false = sym f ∙ q in w

-- ---- hits in order

abbrev NotBelow : Hit → List Hit → Type 0
NotBelow h [] = Unit {0}
NotBelow h (g ∷ gs) = (lt g.t h.t ≡ false) × NotBelow h gs

abbrev Ordered : List Hit → Type 0
Ordered [] = Unit {0}
Ordered (h ∷ hs) = NotBelow h hs × Ordered hs

lower : (h g : Hit) (gs : List Hit) → lt h.t g.t ≡ true → NotBelow g gs → NotBelow h gs
lower h g [] p n = tt
lower h g (k ∷ gs) p n = (not_below h.t g.t k.t p n.0, lower h g gs p n.1)

not_below_inserted : (k h : Hit) (gs : List Hit) → lt h.t k.t ≡ false → NotBelow k gs → NotBelow k (inserted h gs)
unfolding inserted
not_below_inserted k h [] p n = (p, tt)
not_below_inserted k h (g ∷ gs) p n = go (not_below_inserted k h gs p n.1) (lt h.t g.t)
  where
    go : NotBelow k (inserted h gs) → (b : Bool) → NotBelow k (cond b (h ∷ (g ∷ gs)) (g ∷ inserted h gs))
    go i true = (p, n)
    go i false = (n.0, i)

ordered_inserted : (h : Hit) (gs : List Hit) → Ordered gs → Ordered (inserted h gs)
unfolding inserted
ordered_inserted h [] o = (tt, tt)
ordered_inserted h (g ∷ gs) o = go (ordered_inserted h gs o.1) (lt h.t g.t) refl
  where
    go : Ordered (inserted h gs) → (b : Bool) → lt h.t g.t ≡ b → Ordered (cond b (h ∷ (g ∷ gs)) (g ∷ inserted h gs))
    go i true e = ((not_below h.t g.t g.t e (lt_itself g.t), lower h g gs e o.0), o)
    go i false e = (not_below_inserted g h gs e o.0, i)

ordered_sorted : (gs hs : List Hit) → Ordered gs → Ordered (sorted_into gs hs)
unfolding sorted_into
ordered_sorted gs [] o = o
ordered_sorted gs (h ∷ hs) o = ordered_sorted (inserted h gs) hs (ordered_inserted h gs o)

not_below_dropped : (near : Hit → Hit → Bool) (k g : Hit) (hs : List Hit) → NotBelow k hs → NotBelow k (dropped_after near g hs)
unfolding dropped_after
not_below_dropped near k g [] n = tt
not_below_dropped near k g (h ∷ hs) n = go (not_below_dropped near k g hs n.1) (not_below_dropped near k h hs n.1) (near g h)
  where
    go : NotBelow k (dropped_after near g hs) → NotBelow k (dropped_after near h hs) → (b : Bool) → NotBelow k (cond b (dropped_after near g hs) (h ∷ dropped_after near h hs))
    go i j true = i
    go i j false = (n.0, j)

first_of_two : (h : Hit) (ds : List Hit) (s : Span) → NotBelow h ds → span_of (h ∷ ds) ≡ Some s → lt s.second.t s.first.t ≡ false
unfolding span_of
first_of_two h [] s n e = let w : ◌≡◌ {A = ℕ} 0 1 = cc in absurd (omega arith)
first_of_two h (k ∷ []) s n e = let w : s ≡ span h k = cc in rw w n.0
first_of_two h (k ∷ (l ∷ ds)) s n e = let w : ◌≡◌ {A = ℕ} 0 1 = cc in absurd (omega arith)

-- the two that remain, whichever hits count as near: the second is not below the first
pub span-in_order : (near : Hit → Hit → Bool) (hs : List Hit) (s : Span) → span_of (dropped near (sorted hs)) ≡ Some s → lt s.second.t s.first.t ≡ false
unfolding dropped span_of
span-in_order near hs s e = go (sorted hs) (ordered_sorted [] hs tt) e
  where
    go : (gs : List Hit) → Ordered gs → span_of (dropped near gs) ≡ Some s → lt s.second.t s.first.t ≡ false
    go [] o f = let w : ◌≡◌ {A = ℕ} 0 1 = cc in absurd (omega arith)
    go (g ∷ gs) o f = first_of_two g (dropped_after near g gs) s (not_below_dropped near g g gs o.0) f
