-- The law of both rearrangements: where each byte goes, that each undoes the other, and that no number and one number stay as they are. Assumes nothing.
use mathlib.Core.Path.{◌≡◌, ◌∙◌, sym, ap}
use mathlib.Core.List.{List}
use Prim.Native.Nat.{ℕ, ◌+◌, ◌*◌, ◌/◌, ◌%◌, ◌≤◌, ◌<◌}
use native.Mathlib.Omega.{arith}
use lib.ListN.{length, get_or}
use lib.Seq.{ext_get_or}
use Rattle.shuffle.specs.Shuffle.{place, transposed, shuffled, unshuffled}
use Rattle.shuffle.specs.Law.{ShuffleLaw}
use Rattle.shuffle.proofs.Places.{place-bound, place_column, place-row, place_below, place-back}
use Rattle.shuffle.proofs.MovedLaws.{tabulated-length, tabulated-at}

-- ---- rows and columns

module _ (n m : ℕ) (bs : List ℕ) where
  pub transposed-length : length (transposed n m bs) ≡ m * n
  unfolding transposed
  transposed-length = tabulated-length (m * n) (λ p. get_or bs (place n m p) 0)

  pub transposed-at : (p : ℕ) → p < m * n → get_or (transposed n m bs) p 0 ≡ get_or bs (place n m p) 0
  unfolding transposed
  transposed-at = tabulated-at (m * n) (λ p. get_or bs (place n m p) 0)

  -- byte i of row k goes to place i × n + k
  pub transposed_byte : (i k : ℕ) → i < m → k < n → get_or (transposed n m bs) (i * n + k) 0 ≡ get_or bs (k * m + i) 0
  transposed_byte i k h l = transposed-at (i * n + k) (place-bound m n i k h l) ∙ rw (place_column n i k l, place-row n i k l)

  pub transposed_same : length bs ≡ m * n → ((p : ℕ) → p < m * n → place n m p ≡ p) → transposed n m bs ≡ bs
  transposed_same whole same =
      ext_get_or 0 (transposed n m bs) bs (transposed-length ∙ sym whole) (λ p h. let l : p < m * n = omega (arith, transposed-length) in transposed-at p l ∙ rw (same p l))

-- transposed back
pub transposed_twice : (n m : ℕ) (bs : List ℕ) → length bs ≡ n * m → transposed m n (transposed n m bs) ≡ bs
transposed_twice n m bs whole =
    let e = transposed-length m n (transposed n m bs) in
    ext_get_or 0 (transposed m n (transposed n m bs)) bs (e ∙ sym whole) (λ p h. back p (omega (arith, e)))
  where
    back : (p : ℕ) → p < n * m → get_or (transposed m n (transposed n m bs)) p 0 ≡ get_or bs p 0
    back p h = transposed-at m n (transposed n m bs) p h ∙ transposed-at n m bs (place m n p) (place_below m n p h) ∙ rw (place-back m n p h)

-- ---- numbers of eight bytes

module _ (bs : List ℕ) where
  pub shuffled-length : length bs % 8 ≡ 0 → length (shuffled bs) ≡ length bs
  unfolding shuffled
  shuffled-length e = transposed-length _ _ bs ∙ omega (arith, e)

  pub unshuffled-length : length bs % 8 ≡ 0 → length (unshuffled bs) ≡ length bs
  unfolding unshuffled
  unshuffled-length e = transposed-length _ _ bs ∙ omega (arith, e)

  module _ (n : ℕ) (whole : length bs ≡ 8 * n) where
    count : length bs / 8 ≡ n
    count = omega (arith, whole)

    no_part : length bs % 8 ≡ 0
    no_part = omega (arith, whole)

    shuffled_byte : (i k : ℕ) → i < 8 → k < n → get_or (shuffled bs) (i * n + k) 0 ≡ get_or bs (k * 8 + i) 0
    unfolding shuffled
    shuffled_byte i k h l = rw count (transposed_byte n 8 bs i k h l)

    unshuffled_byte : (i k : ℕ) → i < 8 → k < n → get_or (unshuffled bs) (k * 8 + i) 0 ≡ get_or bs (i * n + k) 0
    unfolding unshuffled
    unshuffled_byte i k h l = rw count (transposed_byte 8 n bs k i l h)

    shuffle_undone : unshuffled (shuffled bs) ≡ bs
    unfolding shuffled unshuffled
    shuffle_undone = rw (ap (λ (x : ℕ). x / 8) (shuffled-length no_part)) (transposed_twice (length bs / 8) 8 bs (omega (arith, no_part)))

    unshuffle_undone : shuffled (unshuffled bs) ≡ bs
    unfolding shuffled unshuffled
    unshuffle_undone = rw (ap (λ (x : ℕ). x / 8) (unshuffled-length no_part)) (transposed_twice 8 (length bs / 8) bs (omega (arith, no_part)))

    shuffle_few : n ≤ 1 → shuffled bs ≡ bs
    unfolding shuffled
    shuffle_few few = rw count (transposed_same n 8 bs whole (λ p h. let e : n ≡ 1 = omega arith in rw e (omega arith)))

    unshuffle_few : n ≤ 1 → unshuffled bs ≡ bs
    unfolding unshuffled
    unshuffle_few few = rw count (transposed_same 8 n bs (omega (arith, whole)) (λ p h. let e : n ≡ 1 = omega arith in rw e (omega arith)))

    pub shuffle_law : ShuffleLaw n bs
    shuffle_law =
        record {
          sorted = shuffled_byte;
          restored = unshuffled_byte;
          sorted_length = shuffled-length no_part;
          restored_length = unshuffled-length no_part;
          sorted_undone = shuffle_undone;
          restored_undone = unshuffle_undone;
          sorted_few = shuffle_few;
          restored_few = unshuffle_few;
        }
