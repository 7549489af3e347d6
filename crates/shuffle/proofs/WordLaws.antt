-- Laws of words read from bytes and written as bytes. Assumes nothing.
use mathlib.Core.Path.{◌≡◌, refl, ◌∙◌, sym, ap}
use mathlib.Core.Logic.{⊎_elim}
use mathlib.Core.List.{List}
use Prim.Native.Nat.{ℕ, ◌+◌, ◌-◌, ◌*◌, ◌/◌, ◌%◌, ◌≤◌, ◌<◌}
use native.Mathlib.Omega.{arith}
use lib.ListN.{length, get_or, set, take, drop, length-take, length-drop}
use lib.Seq.{get_or-take, get_or-drop}
use Rattle.std.specs.Int.{w64, to_le_bytes, from_le_bytes}
use Rattle.std.proofs.lemmas.List.{get_or_past}
use Rattle.std.proofs.lemmas.Nat.{le_bytes_8}
use Rattle.shuffle.specs.Shuffle.{place, tabulated}
use Rattle.shuffle.specs.Words.{byte_of, turned}
use Rattle.shuffle.specs.Code.{standing, word_place, bytes_of, Distinct, Holds, HoldsEight, Moved}
use Rattle.shuffle.proofs.Places.{place_column, place-row, place-back}
use Rattle.shuffle.proofs.MovedLaws.{order, tabulated-at, moved_one, moved_more, moved_from}
use Rattle.shuffle.proofs.EntryLaws.{sorted_distinct}
use Rattle.shuffle.proofs.ByteLaws.{first_byte}
use Rattle.shuffle.proofs.TurnLaws.{eight, turned_byte}

-- ---- a word read

-- its bytes as std writes them
le_byte : (w i : ℕ) → i < 8 → get_or (to_le_bytes w64 w) i 0 ≡ byte_of i w
le_byte w = eight (λ (i : ℕ). get_or (to_le_bytes w64 w) i 0 ≡ byte_of i w) (sym (first_byte w)) refl refl refl refl refl refl refl

pub word_holds : (bs part : List ℕ) (at w : ℕ) → at + 8 ≤ length bs → ((i : ℕ) → get_or bs i 0 < 256) → part ≡ take (at + 8 - at) (drop at bs) → w ≡ from_le_bytes w64 part → Holds bs at w
word_holds bs part at w fits small cut is i h =
    let eight_long : at + 8 - at ≡ 8 = omega arith in
    let whole : part ≡ take 8 (drop at bs) = rw eight_long at cut in
    let long : length part ≡ 8 = rw whole (simp (length-take, length-drop) (omega arith)) in
    let each : (j : ℕ) → j < 8 → get_or part j 0 ≡ get_or bs (at + j) 0 = λ j l. rw (whole, get_or-take, get_or-drop) in
    let below : (j : ℕ) → get_or part j 0 < 256 = λ j. ⊎_elim (λ g. rw (get_or_past part j 0 (omega (arith, long))) (omega arith)) (λ l. rw (each j l) (small (at + j))) (order j 8) in
    sym (le_byte w i h) ∙ ap (λ (b : List ℕ). get_or b i 0) (le_bytes_8 part w long below is) ∙ each i h

-- ---- a word written

pub put_byte : (w at i : ℕ) (old mid : List ℕ) → i < 8 → Moved (λ j. j) (λ j. at + j) i (tabulated 8 (λ j. byte_of j w)) old mid → at + i < length mid
    → Moved (λ j. j) (λ j. at + j) (i + 1) (tabulated 8 (λ j. byte_of j w)) old (set mid (at + i) (get_or (to_le_bytes w64 w) i 0))
put_byte w at i old mid h m room =
    let e : get_or (to_le_bytes w64 w) i 0 ≡ get_or (tabulated 8 (λ j. byte_of j w)) i 0 = le_byte w i h ∙ sym (tabulated-at 8 (λ j. byte_of j w) i h) in
    rw e (moved_one (λ j. j) (λ j. at + j) (tabulated 8 (λ j. byte_of j w)) old i mid m room (λ p l f. omega arith))

-- ---- eight words written

pub bytes-at : (ws : List ℕ) (p : ℕ) → p < 64 → get_or (bytes_of ws) p 0 ≡ byte_of (p % 8) (get_or ws (p / 8) 0)
unfolding bytes_of
bytes-at ws p h = tabulated-at 64 (λ q. byte_of (q % 8) (get_or ws (q / 8) 0)) p h

word_place-at : (to step j i : ℕ) → i < 8 → word_place to step (8 * j + i) ≡ to + j * step + i
word_place-at to step j i h =
    let a : (8 * j + i) / 8 ≡ j = omega arith in
    let b : (8 * j + i) % 8 ≡ i = omega arith in
    rw (a, b)

pub word_place_distinct : (to step count : ℕ) → 8 ≤ step → Distinct (word_place to step) count
word_place_distinct to step count wide p q h l e =
    let f : p / 8 * step + p % 8 ≡ q / 8 * step + q % 8 = omega (arith, e) in
    let a : p / 8 ≡ q / 8 = sym (place-row step (p / 8) (p % 8) (omega arith)) ∙ ap (λ (x : ℕ). x / step) f ∙ place-row step (q / 8) (q % 8) (omega arith) in
    let b : p % 8 ≡ q % 8 = sym (place_column step (p / 8) (p % 8) (omega arith)) ∙ ap (λ (x : ℕ). x % step) f ∙ place_column step (q / 8) (q % 8) (omega arith) in
    omega (arith, a, b)

pub put_more : (to step j : ℕ) (ws old mid new : List ℕ) → 8 ≤ step → j < 8
    → Moved (λ p. p) (word_place to step) (8 * j) (bytes_of ws) old mid
    → Moved (λ i. i) (λ i. to + j * step + i) 8 (tabulated 8 (λ i. byte_of i (get_or ws j 0))) mid new
    → Moved (λ p. p) (word_place to step) (8 * (j + 1)) (bytes_of ws) old new
put_more to step j ws old mid new wide h m one =
    let e : 8 * (j + 1) ≡ 8 * j + 8 = omega arith in
    rw e (moved_more (λ p. p) (word_place to step) (bytes_of ws) old (8 * j) 8 mid new (λ i. 8 * j + i) (λ i. to + j * step + i) (λ i l. refl) (word_place-at to step j) (word_place_distinct to step (8 * j + 8) wide) m
    (moved_from (λ i. i) (λ i. to + j * step + i) (λ i. 8 * j + i) (λ i. to + j * step + i) 8 (tabulated 8 (λ i. byte_of i (get_or ws j 0))) (bytes_of ws) mid new (λ i. i) (λ i l. l) (λ i l. refl) (λ i l. refl) same one))
  where
    same : (i : ℕ) → i < 8 → get_or (tabulated 8 (λ k. byte_of k (get_or ws j 0))) i 0 ≡ get_or (bytes_of ws) (8 * j + i) 0
    same i l =
        let a : (8 * j + i) / 8 ≡ j = omega arith in
        let b : (8 * j + i) % 8 ≡ i = omega arith in
        tabulated-at 8 (λ k. byte_of k (get_or ws j 0)) i l ∙ sym (bytes-at ws (8 * j + i) (omega arith) ∙ rw (a, b))

-- ---- eight numbers moved by the turn

-- byte i of word k of the turn is byte k of word i
module _ (bs ws : List ℕ) (at step : ℕ) (read : HoldsEight bs at step ws) where
  turned_read : (k i : ℕ) → k < 8 → i < 8 → byte_of i (get_or (turned ws) k 0) ≡ get_or bs (at + i * step + k) 0
  turned_read k i h l = turned_byte ws k i h l ∙ read i k l h

  turned-at : (p : ℕ) → p < 64 → get_or (bytes_of (turned ws)) p 0 ≡ get_or bs (at + p % 8 * step + p / 8) 0
  turned-at p h = bytes-at (turned ws) p h ∙ turned_read (p / 8) (p % 8) (omega arith) (omega arith)

-- a byte of group g counted from the first of all
in_group : (n g p : ℕ) → standing 1 n (64 * g + p) ≡ 8 * g + p % 8 * n + p / 8
in_group n g p =
    let a : (64 * g + p) / 8 ≡ 8 * g + p / 8 = omega arith in
    let b : (64 * g + p) % 8 ≡ p % 8 = omega arith in
    rw (a, b) (omega arith)

turned-place : (n g p : ℕ) → p < 64 → word_place (8 * g) n (place 8 8 p) ≡ 8 * g + p % 8 * n + p / 8
turned-place n g p h =
    let a : place 8 8 p / 8 ≡ p % 8 = omega arith in
    let b : place 8 8 p % 8 ≡ p / 8 = omega arith in
    rw (a, b)

module _ (bs ws old mid new : List ℕ) (n g : ℕ) where
  -- the numbers' bytes together, then like bytes together
  pub group_shuffled : HoldsEight bs (64 * g) 8 ws → 8 * g + 8 ≤ n
      → Moved (standing 8 1) (standing 1 n) (64 * g) bs old mid → Moved (λ p. p) (word_place (8 * g) n) 64 (bytes_of (turned ws)) mid new
      → Moved (standing 8 1) (standing 1 n) (64 * (g + 1)) bs old new
  group_shuffled read fits m put =
      let e : 64 * (g + 1) ≡ 64 * g + 64 = omega arith in
      rw e (moved_more (standing 8 1) (standing 1 n) bs old (64 * g) 64 mid new (λ p. standing 8 1 (64 * g + p)) (λ p. standing 1 n (64 * g + p)) (λ p h. refl) (λ p h. refl) (λ p q h l. sorted_distinct n p q (omega arith) (omega arith)) m
      (moved_from (λ p. p) (word_place (8 * g) n) (λ p. standing 8 1 (64 * g + p)) (λ p. standing 1 n (64 * g + p)) 64 (bytes_of (turned ws)) bs mid new (place 8 8) (λ p h. omega arith) (place-back 8 8)
      (λ p h. turned-place n g p h ∙ sym (in_group n g p))
      (λ p h. turned-at bs ws (64 * g) 8 read (place 8 8 p) (omega arith) ∙ ap (λ (q : ℕ). get_or bs q 0) (omega arith)) put))

  -- and back
  pub group_unshuffled : HoldsEight bs (8 * g) n ws → 8 * g + 8 ≤ n
      → Moved (standing 1 n) (standing 8 1) (64 * g) bs old mid → Moved (λ p. p) (word_place (64 * g) 8) 64 (bytes_of (turned ws)) mid new
      → Moved (standing 1 n) (standing 8 1) (64 * (g + 1)) bs old new
  group_unshuffled read fits m put =
      let e : 64 * (g + 1) ≡ 64 * g + 64 = omega arith in
      rw e (moved_more (standing 1 n) (standing 8 1) bs old (64 * g) 64 mid new (λ p. standing 1 n (64 * g + p)) (λ p. standing 8 1 (64 * g + p)) (λ p h. refl) (λ p h. refl) (λ p q h l f. omega arith) m
      (moved_from (λ p. p) (word_place (64 * g) 8) (λ p. standing 1 n (64 * g + p)) (λ p. standing 8 1 (64 * g + p)) 64 (bytes_of (turned ws)) bs mid new (λ p. p) (λ p h. h) (λ p h. refl)
      (λ p h. omega arith)
      (λ p h. turned-at bs ws (8 * g) n read p h ∙ ap (λ (q : ℕ). get_or bs q 0) (sym (in_group n g p))) put))
