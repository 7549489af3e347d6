-- Bytes put into an output one after the other. Assumes nothing.
use mathlib.Core.Path.{◌≡◌, refl, sym, ◌∙◌}
use mathlib.Core.List.{List, [], ◌++◌, append_assoc, append-nil}
use Prim.Native.Nat.{ℕ, ◌+◌, ◌≤◌}
use native.Mathlib.Nat.{add-zero}
use native.Mathlib.Omega.{arith}
use lib.ListN.{length, take, drop, length-append, length-take, length-drop, take-append-drop}
use lib.Seq.{drop-drop, take_at, drop-append-add}
use Rattle.record.specs.Code.{placed, Puts}

pub placed_none : (at : ℕ) (out : List ℕ) → placed at [] out ≡ out
unfolding placed
placed_none at out = rw (add-zero at, append-nil (take at out)) (take-append-drop at out)

pub placed_length : (at : ℕ) (bs out : List ℕ) → at + length bs ≤ length out → length (placed at bs out) ≡ length out
unfolding placed
placed_length at bs out h =
    omega (arith, length-append (take at out ++ bs) (drop (at + length bs) out), length-append (take at out) bs, length-take at out, length-drop (at + length bs) out)

pub placed_more : (at : ℕ) (bs cs out : List ℕ) → at + length bs ≤ length out → placed (at + length bs) cs (placed at bs out) ≡ placed at (bs ++ cs) out
unfolding placed
placed_more at bs cs out h =
    let front : length (take at out ++ bs) ≡ at + length bs = omega (arith, length-append (take at out) bs, length-take at out) in
    let more : at + length bs + length cs ≡ length (take at out ++ bs) + length cs = omega (arith, front) in
    let sum : at + length (bs ++ cs) ≡ at + length bs + length cs = omega (arith, length-append bs cs) in
    rw (take_at (take at out ++ bs) (drop (at + length bs) out) (at + length bs) front, more, drop-append-add (take at out ++ bs) (drop (at + length bs) out) (length cs), drop-drop (length cs) (at + length bs) out, sum, append_assoc (take at out) bs cs) refl

-- what is left to be put, from here on, makes the whole
pub record Left (place : ℕ) (bs out : List ℕ) (end : ℕ) (whole : List ℕ) : Type 0 where
  pub place_is : place + length bs ≡ end
  pub fits : end ≤ length out
  pub output : placed place bs out ≡ whole

pub left_start : (at : ℕ) (bs out : List ℕ) → at + length bs ≤ length out → Left at bs out (at + length bs) (placed at bs out)
left_start at bs out h = record { place_is = refl; fits = h; output = refl }

pub left_room : (place : ℕ) (bs cs out : List ℕ) (end : ℕ) (whole : List ℕ) → Left place (bs ++ cs) out end whole → place + length bs ≤ length out
left_room place bs cs out end whole l = omega (arith, l.place_is, l.fits, length-append bs cs)

pub left_fits : (place : ℕ) (bs out : List ℕ) (end : ℕ) (whole : List ℕ) → Left place bs out end whole → place + length bs ≤ length out
left_fits place bs out end whole l = omega (arith, l.place_is, l.fits)

-- the first of it was put
pub left_put : (place : ℕ) (bs cs out : List ℕ) (end : ℕ) (whole : List ℕ) (new : List ℕ) (r : ℕ) → Left place (bs ++ cs) out end whole → Puts place bs out new r → Left r cs new end whole
left_put place bs cs out end whole new r l p =
    let room = left_room place bs cs out end whole l in
    rw (p.0, p.1)
    (record {
      place_is = omega (arith, l.place_is, length-append bs cs);
      fits = omega (arith, l.fits, placed_length place bs out room);
      output = placed_more place bs cs out room ∙ l.output;
    })

pub left_end : (place : ℕ) (out : List ℕ) (end : ℕ) (whole : List ℕ) → Left place [] out end whole → (place ≡ end) × (out ≡ whole)
left_end place out end whole l = (omega (arith, l.place_is), sym (placed_none place out) ∙ l.output)

-- the last of it was put
pub left_last : (place : ℕ) (bs out : List ℕ) (end : ℕ) (whole : List ℕ) (new : List ℕ) (r : ℕ) → Left place bs out end whole → Puts place bs out new r → (r ≡ end) × (new ≡ whole)
left_last place bs out end whole new r l p = (p.0 ∙ l.place_is, p.1 ∙ l.output)
