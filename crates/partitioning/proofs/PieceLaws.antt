-- Pieces: what the entry tests tell, what is returned and what the outputs hold, and that a piece always fits. Assumes nothing.
use mathlib.Core.Path.{◌≡◌, refl, sym}
use mathlib.Core.Bool.{Bool, true, false, not, ◌||◌, cond}
use mathlib.Core.List.{List}
use Prim.Native.Nat.{ℕ, ◌+◌, ◌*◌, ◌/◌, ◌≤◌, min}
use native.Mathlib.Omega.{arith}
use borrow.Author.Tests.{ltb-false}
use lib.Dec.{ltb}
use lib.ListN.{length}
use lib.Ieee.{Float, binary64, fits}
use Rattle.std.specs.Prelude.{Ok, Err, IfOk}
use Rattle.std.proofs.lemmas.Bool.Decides.{nat_tests}
use Rattle.errors.specs.Answer.{Answer, passed, ◌>>=◌}
use Rattle.errors.specs.declared.Refusal.{Refusal}
use Rattle.errors.specs.declared.Refusal.TheVariants.{EmptyStretch, PointCount}
use Rattle.points.specs.declared.Point2.{Point2}
use Rattle.curve2.specs.Section.{points_of, ends_meet}
use Rattle.curve2.specs.Entry.{bad_count, section_entry, IsSection}
use Rattle.curve2.specs.Lent.{IsLent}
use Rattle.curve2.specs.declared.AlsoBad.{AlsoBad}
use Rattle.curve2.specs.declared.checked.Curve2.{Curve2}
use Rattle.curve2.proofs.Laws.{length-points, count_most, entry_passed, entry_room}
use Rattle.cleaning.specs.Cleaning.{kept, most_cleaned, output_after, curve_answer, Made}
use Rattle.cleaning.specs.declared.Curve.{Curve}
use Rattle.cleaning.specs.declared.checked.Uncleaned.{Uncleaned}
use Rattle.cleaning.proofs.Numbers.{points-length}
use Rattle.partitioning.specs.Walk.{ends_of, is_empty, given_between, or_too_few, given_of}
use Rattle.partitioning.specs.Code.{IsCuttable, AreGiven}
use Rattle.partitioning.specs.Pieces.{Stretch, cleaned_stretch, stretch_of, Halves, both_of, is_short, stretch_entry, piece_told, piece_answer, pieces_answer, stretch_after, first_after, second_after, Cut, CutInTwo}
use Rattle.partitioning.specs.declared.Ends.{Ends}
use Rattle.partitioning.specs.declared.Piece.{Piece}
use Rattle.partitioning.proofs.StretchLaws.{between-count, given_walkable}

-- ---- what passing the entry tests tells

module _ (ns : List Float) (tol : Float) (good short : Bool) (all_passed : stretch_entry ns tol good short ≡ Ok tt) where
  abbrev also : AlsoBad
  also = record { number = not good; tolerance = false; finer = false; room = short; state = false }

  both : (bad_count most_cleaned (length ns) ≡ false) × (section_entry ns tol also ≡ Ok tt)
  unfolding stretch_entry
  both = go (bad_count most_cleaned (length ns)) all_passed
    where
      go : (b : Bool) → cond b (Err PointCount) (section_entry ns tol (record { number = not good; tolerance = false; finer = false; room = short; state = false })) ≡ Ok tt
          → (b ≡ false) × (section_entry ns tol (record { number = not good; tolerance = false; finer = false; room = short; state = false }) ≡ Ok tt)
      go true e = let z : ◌≡◌ {A = ℕ} 0 1 = cc in absurd (omega arith)
      go false e = (refl, e)

  pub passed_section : IsSection ns tol
  passed_section = entry_passed ns tol also both.1

  pub passed_most : length ns ≤ 2 * most_cleaned
  passed_most = omega (arith, count_most most_cleaned (length ns) both.0)

  pub passed_room : short ≡ false
  passed_room = entry_room ns tol also both.1

-- ---- how many points are given, and that the piece fits

-- One more than the section has, at most. A piece keeps no more than it is given, so it fits an output that passed the test of 4.
pub given-count : (ns : List Float) (tol l0 l1 : Float) (ps : List Point2) → IsSection ns tol → fits binary64 l0 ≡ true → fits binary64 l1 ≡ true → given_of ns tol l0 l1 ≡ Ok ps
    → (1 ≤ length ps) × (2 * length ps ≤ length ns + 2)
unfolding given_of
given-count ns tol l0 l1 ps sec fit0 fit1 h = go (ends_of ns tol l0 l1) refl h
  where
    enough : (e : Ends) (a : Answer (List Point2)) → ((qs : List Point2) → a ≡ Ok qs → (1 ≤ length qs) × (2 * length qs ≤ length ns + 2)) → (a >>= or_too_few tol) ≡ Ok ps
        → (1 ≤ length ps) × (2 * length ps ≤ length ns + 2)
    enough e (Err r) f h = let z : ◌≡◌ {A = ℕ} 0 1 = cc in absurd (omega arith)
    enough e (Ok qs) f h = few (ltb (length (kept tol qs)) 2) h
      where
        few : (b : Bool) → cond b (Err EmptyStretch) (Ok qs) ≡ Ok ps → (1 ≤ length ps) × (2 * length ps ≤ length ns + 2)
        few true h = let z : ◌≡◌ {A = ℕ} 0 1 = cc in absurd (omega arith)
        few false h = let is : qs ≡ ps = cc in rw (← is) (f qs refl)

    empty : (e : Ends) (b : Bool) → ends_of ns tol l0 l1 ≡ Ok e → is_empty ns tol l0 l1 e ≡ b → cond b (Err EmptyStretch) (given_between ns tol e >>= or_too_few tol) ≡ Ok ps
        → (1 ≤ length ps) × (2 * length ps ≤ length ns + 2)
    empty e true p q h = let z : ◌≡◌ {A = ℕ} 0 1 = cc in absurd (omega arith)
    empty e false p q h = enough e (given_between ns tol e) (λ qs g. between-count ns tol e qs (given_walkable ns tol l0 l1 e p sec fit0 fit1 q) g) h

    go : (a : Answer Ends) → ends_of ns tol l0 l1 ≡ a → (a >>= λ e. cond (is_empty ns tol l0 l1 e) (Err EmptyStretch) (given_between ns tol e >>= or_too_few tol)) ≡ Ok ps
        → (1 ≤ length ps) × (2 * length ps ≤ length ns + 2)
    go (Err r) p h = let z : ◌≡◌ {A = ℕ} 0 1 = cc in absurd (omega arith)
    go (Ok e) p h = empty e (is_empty ns tol l0 l1 e) p refl h

-- ---- what is returned of a piece

pub cut-refused : {answer : Answer Stretch} (tol : Float) (old : List Float) (r : Refusal) → answer ≡ Err r → Cut answer tol old old (Err r)
unfolding piece_answer stretch_after output_after
cut-refused tol old r e = record { listed = rw e; output = rw e }

pub cut_made : (given : Uncleaned) (old new : List Float) (c : Curve) → Made (Ok (kept given.tol (points_of given.points.now))) given.tol old new (Ok c)
    → Cut (Ok (cleaned_stretch given.tol (points_of given.points.now))) given.tol old new (Ok (record { count = c.count; is_closed = c.is_closed; given = length given.points.now / 2 }))
unfolding curve_answer piece_answer stretch_after output_after
cut_made given old new c m =
    let ps = kept given.tol (points_of given.points.now) in
    let e = m.listed in
    let is : c ≡ record { count = length ps; is_closed = ends_meet given.tol ps } = cc in
    record { listed = rw (is, length-points given.points.now); output = m.output }

-- the points that a walk gave
module _ (ns : List Float) (tol l0 l1 : Float) where
  pub stretch_refused : (r : Refusal) → AreGiven (given_of ns tol l0 l1) tol (Err r) → stretch_of ns tol l0 l1 ≡ Err r
  unfolding stretch_of
  stretch_refused r g = rw (← g.points)

  module _ (given : Uncleaned) (g : AreGiven (given_of ns tol l0 l1) tol (Ok given)) where
    pub stretch_fits : IsSection ns tol → fits binary64 l0 ≡ true → fits binary64 l1 ≡ true → length given.points.now ≤ length ns + 2
    stretch_fits sec fit0 fit1 = omega (arith, (given-count ns tol l0 l1 (points_of given.points.now) sec fit0 fit1 (sym g.points)).1, points-length given.points.now given.even)

    pub stretch_is : stretch_of ns tol l0 l1 ≡ Ok (cleaned_stretch given.tol (points_of given.points.now))
    unfolding stretch_of
    stretch_is = rw (← g.points, g.tolerance)

    pub stretch_cut : (old new : List Float) (r : Answer Piece) → Cut (Ok (cleaned_stretch given.tol (points_of given.points.now))) given.tol old new r → Cut (stretch_of ns tol l0 l1) tol old new r
    stretch_cut old new r c = rw (stretch_is, ← g.tolerance) c

-- ---- both pieces of a split

pub two-refused : {answer : Answer Halves} (tol : Float) (old0 old1 : List Float) (r : Refusal) → answer ≡ Err r → CutInTwo answer tol old0 old0 old1 old1 (Err r)
unfolding pieces_answer first_after second_after output_after
two-refused tol old0 old1 r e = record { listed = rw e; first = rw e; second = rw e }

module _ (a b : Answer Stretch) (s : Stretch) (e : a ≡ Ok s) where
  pub second_refused : (r : Refusal) → b ≡ Err r → both_of a b ≡ Err r
  second_refused r f = rw (e, f)

  module _ (t : Stretch) (f : b ≡ Ok t) (tol : Float) (old0 new0 old1 new1 : List Float) (p q : Piece) (c : Cut a tol old0 new0 (Ok p)) (d : Cut b tol old1 new1 (Ok q)) where
    first_told : p ≡ piece_told tol s
    unfolding piece_answer
    first_told = let g = rw e at c.listed in cc

    second_told : q ≡ piece_told tol t
    unfolding piece_answer
    second_told = let g = rw f at d.listed in cc

    pub cut-two : CutInTwo (both_of a b) tol old0 new0 old1 new1 (Ok (record { first = p; second = q }))
    unfolding pieces_answer first_after second_after stretch_after output_after
    cut-two = record { listed = rw (e, f, first_told, second_told); first = rw (e, f) (rw e at c.output); second = rw (e, f) (rw f at d.output) }

-- ---- what a call asks for

module _ (ns : List Float) (tol : Float) (good : Bool) (room : ℕ) where
  pub cuttable : stretch_entry ns tol good (is_short ns room) ≡ Ok tt → IsCuttable ns tol room
  cuttable e = record {
    section = passed_section ns tol good (is_short ns room) e;
    most = passed_most ns tol good (is_short ns room) e;
    fits = ltb-false room (length ns + 2) (passed_room ns tol good (is_short ns room) e);
  }

  pub lent-cuttable : (r : Answer Curve2) → passed r ≡ stretch_entry ns tol good (is_short ns room) → IsLent ns tol r → IfOk r (λ s. IsCuttable s.points.now s.tol room)
  lent-cuttable (Ok s) e l = rw (l.0, l.1) (cuttable (sym e))
  lent-cuttable (Err n) e l = tt

-- the shorter of two outputs
pub either_short : (ns : List Float) (a b : ℕ) → is_short ns (min a b) ≡ (is_short ns a || is_short ns b)
either_short ns a b = grind (arith, nat_tests)

module _ (ns : List Float) (tol : Float) (a b : ℕ) where
  both_cuttable : IsCuttable ns tol (min a b) → IsCuttable ns tol a × IsCuttable ns tol b
  both_cuttable c =
      (record { section = c.section; most = c.most; fits = omega (arith, c.fits) }, record { section = c.section; most = c.most; fits = omega (arith, c.fits) })

  pub two_cuttable : (good : Bool) → stretch_entry ns tol good (is_short ns a || is_short ns b) ≡ Ok tt → IsCuttable ns tol a × IsCuttable ns tol b
  two_cuttable good e = both_cuttable (cuttable ns tol good (min a b) (rw either_short e))
