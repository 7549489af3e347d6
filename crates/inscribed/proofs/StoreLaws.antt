-- A store's numbers and its circles: what is put is read, the circles in use are its first numbers, and one more circle. Assumes nothing.
use mathlib.Core.Path.{◌≡◌, refl, sym, ap, ◌∙◌}
use mathlib.Core.Bool.{Bool, false, ◌||◌}
use mathlib.Core.List.{List, [], ◌∷◌, ◌++◌, append_assoc, append-nil}
use Prim.Native.Nat.{ℕ, zero, suc, ◌+◌, ◌-◌, ◌*◌, ◌≤◌, ◌<◌}
use native.Mathlib.Numerals.{add-one, add-two, add-three, add-four, add_five, add_six, add_seven, add_eight}
use native.Mathlib.Nat.{add-zero}
use native.Mathlib.Omega.{arith}
use borrow.Author.Tests.{ltb-false}
use lib.Dec.{ltb}
use lib.ListN.{length, get_or, take, drop, length-append, length-drop, take-append-drop}
use lib.Seq.{drop-cons, drop-drop, take-add, take_at, drop-append-add, get_or-append-add}
use lib.Ieee.{Float, nan}
use Rattle.std.specs.Prelude.{Ok}
use Rattle.std.specs.List.{list_any, range_with_len}
use Rattle.curve2.proofs.Laws.{none_bad, or_left, or_right}
use Rattle.inscribed.specs.Store.{width, most_slots, numbers_of, circle_from, circle_at, circles_from, circles_of, all_numbers, stored, bad_circle, any_bad, slots, bad_store, bad_store_count, circles_entry, numbers_from}
use Rattle.inscribed.specs.Code.{with_circle}
use Rattle.inscribed.specs.declared.Inscribed.{Inscribed}
use Rattle.errors.specs.declared.Refusal.TheVariants.{BadNumber, NoRoom}

-- ---- how many numbers

pub length-numbers : (c : Inscribed) → length (numbers_of c) ≡ width
unfolding numbers_of
length-numbers c = refl

pub length_all : (cs : List Inscribed) → length (all_numbers cs) ≡ width * length cs
unfolding all_numbers
length_all [] = refl
length_all (c ∷ cs) = omega (arith, length-append (numbers_of c) (all_numbers cs), length-numbers c, length_all cs)

pub numbers-append : (cs ds : List Inscribed) → all_numbers (cs ++ ds) ≡ all_numbers cs ++ all_numbers ds
unfolding all_numbers
numbers-append [] ds = refl
numbers-append (c ∷ cs) ds = rw (numbers-append cs ds) (sym (append_assoc (numbers_of c) (all_numbers cs) (all_numbers ds)))

pub stored_length : (cs : List Inscribed) (old : List Float) → width * length cs ≤ length old → length (stored cs old) ≡ length old
unfolding stored
stored_length cs old h = omega (arith, length-append (all_numbers cs) (drop (width * length cs) old), length_all cs, length-drop (width * length cs) old, h)

pub length-circles : (ns : List Float) (k n : ℕ) → length (circles_from ns k n) ≡ n
unfolding circles_from
length-circles ns k zero = refl
length-circles ns k (suc n) = ap suc (length-circles ns (suc k) n)

-- ---- a circle by its numbers

-- equal numbers are the same circle
same_circle : (ns ms : List Float) (i j : ℕ) → ((t : ℕ) → get_or ns (i + t) nan ≡ get_or ms (j + t) nan) → circle_from ns i ≡ circle_from ms j
unfolding circle_from
same_circle ns ms i j h = rw (rw (add-zero i, add-zero j) at (h 0), h 1, h 2, h 3, h 4, h 5, h 6, h 7, h 8)

-- behind a circle's numbers
after_circle_lem : (c : Inscribed) (ns : List Float) (k : ℕ) → circle_at (numbers_of c ++ ns) (suc k) ≡ circle_at ns k
after_circle_lem c ns k = same_circle (numbers_of c ++ ns) ns (suc k * width) (k * width) (λ t. ap (λ (z : ℕ). get_or (numbers_of c ++ ns) z nan) (place t) ∙ get_or-append-add (numbers_of c) ns (k * width + t) nan)
  where
    place : (t : ℕ) → suc k * width + t ≡ length (numbers_of c) + (k * width + t)
    place t = rw (length-numbers c) (omega arith)

first_circle : (c : Inscribed) (ns : List Float) → circle_at (numbers_of c ++ ns) 0 ≡ c
unfolding numbers_of circle_from
first_circle c ns = refl

circles_after : (c : Inscribed) (ns : List Float) (k n : ℕ) → circles_from (numbers_of c ++ ns) (suc k) n ≡ circles_from ns k n
unfolding circles_from
circles_after c ns k zero = refl
circles_after c ns k (suc n) = rw (after_circle_lem c ns k, circles_after c ns (suc k) n)

-- ---- the circles of a store whose first numbers are theirs

pub circles-stored : (cs : List Inscribed) (rest : List Float) → circles_of (all_numbers cs ++ rest) (length cs) ≡ cs
unfolding all_numbers circles_from
circles-stored [] rest = refl
circles-stored (c ∷ cs) rest = rw (append_assoc (numbers_of c) (all_numbers cs) rest, first_circle c (all_numbers cs ++ rest), circles_after c (all_numbers cs ++ rest) 0 (length cs), circles-stored cs rest)

pub circle-stored : (cs : List Inscribed) (rest : List Float) (k : ℕ) (d : Inscribed) → k < length cs → circle_at (all_numbers cs ++ rest) k ≡ get_or cs k d
unfolding all_numbers
circle-stored [] rest k d h = absurd (omega arith)
circle-stored (c ∷ cs) rest zero d h = rw (append_assoc (numbers_of c) (all_numbers cs) rest) (first_circle c (all_numbers cs ++ rest))
circle-stored (c ∷ cs) rest (suc k) d h = rw (append_assoc (numbers_of c) (all_numbers cs) rest) (after_circle_lem c (all_numbers cs ++ rest) k ∙ circle-stored cs rest k d (omega arith))

pub circle_of-stored : (cs : List Inscribed) (old : List Float) (k : ℕ) (d : Inscribed) → k < length cs → circle_at (stored cs old) k ≡ get_or cs k d
unfolding stored
circle_of-stored cs old k d h = circle-stored cs (drop (width * length cs) old) k d h

-- ---- the first numbers of a store are those of its circles

numbers-at : (ns : List Float) (i : ℕ) → i + width ≤ length ns → numbers_of (circle_from ns i) ≡ take width (drop i ns)
unfolding numbers_of circle_from
numbers-at ns i h =
    rw
    (add-one i, add-two i, add-three i, add-four i, add_five i, add_six i, add_seven i, add_eight i, drop-cons ns i nan (omega arith), drop-cons ns (suc i) nan (omega arith), drop-cons ns (suc (suc i)) nan (omega arith), drop-cons ns (suc (suc (suc i))) nan (omega arith), drop-cons ns (suc (suc (suc (suc i)))) nan (omega arith), drop-cons ns (suc (suc (suc (suc (suc i))))) nan (omega arith), drop-cons ns (suc (suc (suc (suc (suc (suc i)))))) nan (omega arith), drop-cons ns (suc (suc (suc (suc (suc (suc (suc i))))))) nan (omega arith), drop-cons ns (suc (suc (suc (suc (suc (suc (suc (suc i)))))))) nan (omega arith))

pub numbers_from_lem : (ns : List Float) (k n : ℕ) → (k + n) * width ≤ length ns → all_numbers (circles_from ns k n) ≡ take (width * n) (drop (k * width) ns)
unfolding circles_from all_numbers
numbers_from_lem ns k zero h = refl
numbers_from_lem ns k (suc n) h =
    let s : width * suc n ≡ width + width * n = omega arith in
    let p : suc k * width ≡ k * width + width = omega arith in
    rw (s, take-add width (width * n) (drop (k * width) ns), drop-drop width (k * width) ns, ← p, ← (numbers_from_lem ns (suc k) n (omega arith)), ← (numbers-at ns (k * width) (omega arith)))

pub numbers_of-circles : (ns : List Float) (n : ℕ) → width * n ≤ length ns → all_numbers (circles_of ns n) ≡ take (width * n) ns
numbers_of-circles ns n h = numbers_from_lem ns 0 n (omega arith)

pub stored-again : (ns : List Float) (n : ℕ) → width * n ≤ length ns → stored (circles_of ns n) ns ≡ ns
unfolding stored
stored-again ns n h = rw (length-circles ns 0 n, numbers_of-circles ns n h) (take-append-drop (width * n) ns)

-- ---- a store that is written on

-- at least as many circles over a store that holds circles
pub stored_longer : (xs cs : List Inscribed) (old : List Float) → length cs ≤ length xs → stored xs (stored cs old) ≡ stored xs old
unfolding stored
stored_longer xs cs old h =
    let more : ℕ = width * length xs - width * length cs in
    let e : width * length xs ≡ length (all_numbers cs) + more = omega (arith, length_all cs) in
    let f : width * length cs + more ≡ width * length xs = omega arith in
    ap (λ (x : List Float). all_numbers xs ++ x)
    (ap (λ (k : ℕ). drop k (all_numbers cs ++ drop (width * length cs) old)) e
    ∙ drop-append-add (all_numbers cs) (drop (width * length cs) old) more
    ∙ drop-drop more (width * length cs) old
    ∙ ap (λ (k : ℕ). drop k old) f)

pub circles_of-stored : (cs : List Inscribed) (old : List Float) → circles_of (stored cs old) (length cs) ≡ cs
unfolding stored
circles_of-stored cs old = circles-stored cs (drop (width * length cs) old)

all_numbers-snoc : (cs : List Inscribed) (c : Inscribed) → all_numbers (cs ++ (c ∷ [])) ≡ all_numbers cs ++ numbers_of c
unfolding all_numbers
all_numbers-snoc [] c = append-nil (numbers_of c)
all_numbers-snoc (d ∷ cs) c = rw (all_numbers-snoc cs c) (sym (append_assoc (numbers_of d) (all_numbers cs) (numbers_of c)))

-- one more circle
pub stored_push : (cs : List Inscribed) (old : List Float) (c : Inscribed) → with_circle (stored cs old) (length cs) c ≡ stored (cs ++ (c ∷ [])) old
unfolding with_circle stored
stored_push cs old c =
    let n = length cs in
    let a = length_all cs in
    let behind = drop (width * n) old in
    let whole : length cs * width + width ≡ length (all_numbers cs) + width = omega arith in
    let more : width * length (cs ++ (c ∷ [])) ≡ width * n + width = omega (arith, length-append cs (c ∷ [])) in
    rw (take_at (all_numbers cs) behind (n * width) (omega arith), whole, drop-append-add (all_numbers cs) behind width, drop-drop width (width * n) old, more, all_numbers-snoc cs c)

-- ---- a test of each circle of a store

pub list_any-circles : (test : Inscribed → Bool) (ns : List Float) (k n : ℕ) → list_any (λ i. test (circle_at ns i)) (range_with_len k n) ≡ list_any test (circles_from ns k n)
unfolding circles_from
list_any-circles test ns k zero = refl
list_any-circles test ns k (suc n) = rw (add-one k, list_any-circles test ns (suc k) n)

pub any_bad_is : (cs : List Inscribed) → list_any bad_circle cs ≡ any_bad cs
unfolding any_bad
any_bad_is [] = refl
any_bad_is (c ∷ cs) = rw (any_bad_is cs)

-- ---- a store that passed

pub count_fits : (ns : List Float) (count : ℕ) → bad_store_count ns count ≡ false → (count * width ≤ length ns) × (count ≤ most_slots)
count_fits ns count e = let h = ltb-false (slots ns) count e in (omega (arith, h), omega (arith, h))

module _ (ns : List Float) (count place : ℕ) (e : Ok tt ≡ circles_entry ns count place) where
  pub part_bounds : (place ≤ count) × (count * width ≤ length ns)
  unfolding circles_entry
  part_bounds =
      let fits = (none_bad ((BadNumber, bad_store ns count) ∷ (NoRoom, bad_store_count ns count || ltb count place) ∷ []) (sym e)).1.0 in
      (ltb-false count place (or_right (bad_store_count ns count) _ fits), (count_fits ns count (or_left _ _ fits)).0)

  pub part_passed : take (count * width - place * width) (drop (place * width) ns) ≡ numbers_from ns count place
  unfolding numbers_from
  part_passed = let z : (count - place) * width ≡ count * width - place * width = omega arith in rw (← e, z)
