-- Numbers moved from one layout to the other, eight at a time and byte by byte. Assumes nothing.
use mathlib.Core.Path.{◌≡◌}
use mathlib.Core.Logic.{◌⊎◌, inl, inr, ⊎_elim}
use mathlib.Core.List.{List}
use Prim.Native.Nat.{ℕ, ◌+◌, ◌*◌, ◌/◌, ◌%◌, ◌≤◌, ◌<◌}
use native.Mathlib.Omega.{arith}
use lib.ListN.{length, get_or, set}
use Rattle.shuffle.specs.declared.moving.Layout.{Layout}
use Rattle.shuffle.specs.Words.{turned}
use Rattle.shuffle.specs.Code.{standing, together, sorted, Opposite, Bounded, Distinct, HoldsEight, word_place, bytes_of, Moved}
use Rattle.shuffle.proofs.MovedLaws.{moved_one}
use Rattle.shuffle.proofs.EntryLaws.{together_distinct, sorted_bounded, sorted_distinct}
use Rattle.shuffle.proofs.WordLaws.{group_shuffled, group_unshuffled}

-- ---- one layout of the two

abbrev pub IsLayout : ℕ → Layout → Type 0
IsLayout n l = (l ≡ together) ⊎ (l ≡ sorted n)

-- the first byte of group g
group_sorted : (n g : ℕ) → standing 1 n (64 * g) ≡ 8 * g
group_sorted n g =
    let a : 64 * g / 8 ≡ 8 * g = omega arith in
    let b : 64 * g % 8 ≡ 0 = omega arith in
    rw (a, b) (omega arith)

module _ (n : ℕ) (l : Layout) (is : IsLayout n l) where
  pub layout_bounded : Bounded (standing l.next l.step) (8 * n) (8 * n)
  layout_bounded p h = ⊎_elim (λ (e : l ≡ together). rw e (omega arith)) (λ (e : l ≡ sorted n). rw e (sorted_bounded n p h)) is

  pub layout_distinct : Distinct (standing l.next l.step) (8 * n)
  layout_distinct = ⊎_elim (λ (e : l ≡ together). rw e (together_distinct n)) (λ (e : l ≡ sorted n). rw e (sorted_distinct n)) is

-- ---- from one to the other

module _ (n : ℕ) (from to : Layout) (is : Opposite n from to) where
  pub from_layout : IsLayout n from
  from_layout = ⊎_elim (λ e. inl e.0) (λ e. inr e.0) is

  pub to_layout : IsLayout n to
  to_layout = ⊎_elim (λ e. inr e.1) (λ e. inl e.1) is

  module _ (bs ws old mid new : List ℕ) (g : ℕ) (fits : g < n / 8) where
    pub moved_group : HoldsEight bs (standing from.next from.step (64 * g)) (from.next * from.step) ws
        → Moved (standing from.next from.step) (standing to.next to.step) (64 * g) bs old mid
        → Moved (λ p. p) (word_place (standing to.next to.step (64 * g)) (to.next * to.step)) 64 (bytes_of (turned ws)) mid new
        → Moved (standing from.next from.step) (standing to.next to.step) (64 * (g + 1)) bs old new
    moved_group = ⊎_elim sort restore is
      where
        first : standing 8 1 (64 * g) ≡ 64 * g
        first = omega arith

        run : 1 * n ≡ n
        run = omega arith

        sort : (from ≡ together) × (to ≡ sorted n) → HoldsEight bs (standing from.next from.step (64 * g)) (from.next * from.step) ws → Moved (standing from.next from.step) (standing to.next to.step) (64 * g) bs old mid
            → Moved (λ p. p) (word_place (standing to.next to.step (64 * g)) (to.next * to.step)) 64 (bytes_of (turned ws)) mid new → Moved (standing from.next from.step) (standing to.next to.step) (64 * (g + 1)) bs old new
        sort e = rw (e.0, e.1, first, group_sorted n g, run) (λ h m p. group_shuffled bs ws old mid new n g h (omega arith) m p)

        restore : (from ≡ sorted n) × (to ≡ together) → HoldsEight bs (standing from.next from.step (64 * g)) (from.next * from.step) ws → Moved (standing from.next from.step) (standing to.next to.step) (64 * g) bs old mid
            → Moved (λ p. p) (word_place (standing to.next to.step (64 * g)) (to.next * to.step)) 64 (bytes_of (turned ws)) mid new → Moved (standing from.next from.step) (standing to.next to.step) (64 * (g + 1)) bs old new
        restore e = rw (e.0, e.1, first, group_sorted n g, run) (λ h m p. group_unshuffled bs ws old mid new n g h (omega arith) m p)

  -- one byte more
  pub moved_byte : (bs old mid : List ℕ) (p : ℕ) → p < 8 * n → 8 * n ≤ length mid → Moved (standing from.next from.step) (standing to.next to.step) p bs old mid
      → Moved (standing from.next from.step) (standing to.next to.step) (p + 1) bs old (set mid (standing to.next to.step p) (get_or bs (standing from.next from.step p) 0))
  moved_byte bs old mid p h room m =
      moved_one (standing from.next from.step) (standing to.next to.step) bs old p mid m
      (omega (arith, layout_bounded n to to_layout p h))
      (λ q l e. let z = layout_distinct n to to_layout q p (omega arith) h e in omega arith)
