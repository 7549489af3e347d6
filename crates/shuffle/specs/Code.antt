-- The code's own steps: where the bytes of numbers stand, and which were moved. No entry point's promise rests on it. Assumes nothing.
use Rattle.std.specs.Prelude.{◌≡◌, List, ℕ, ◌+◌, ◌*◌, ◌/◌, ◌%◌, ◌^◌, ◌<◌, ◌⊎◌, get_or}
use Rattle.std.specs.Int.Bits.{bit_and, bit_xor}
use Rattle.shuffle.specs.Shuffle.{tabulated}
use Rattle.shuffle.specs.Words.{byte_of}
use Rattle.shuffle.specs.declared.moving.Layout.{Layout}

-- Byte i of number k stands at k × next + i × step; p counts the bytes number by number.
abbrev pub standing : ℕ → ℕ → ℕ → ℕ
standing next step p = p / 8 * next + p % 8 * step

-- the bytes of each number together
abbrev pub together : Layout
together = record { next = 8; step = 1 }

-- like bytes of n numbers together
abbrev pub sorted : ℕ → Layout
sorted n = record { next = 1; step = n }

-- from one of the two to the other
abbrev pub Opposite : ℕ → Layout → Layout → Type 0
Opposite n from to = ((from ≡ together) × (to ≡ sorted n)) ⊎ ((from ≡ sorted n) × (to ≡ together))

-- the first `count` places are below `room`
abbrev pub Bounded : (ℕ → ℕ) → ℕ → ℕ → Type 0
Bounded f count room = (p : ℕ) → p < count → f p < room

-- no two of the first `count` places are the same
abbrev pub Distinct : (ℕ → ℕ) → ℕ → Type 0
Distinct f count = (p q : ℕ) → p < count → q < count → f p ≡ f q → p ≡ q

-- the first `count` bytes moved from their places in bs to those in new, and all else as it was in old
pub record Moved (source target : ℕ → ℕ) (count : ℕ) (bs old new : List ℕ) : Type 0 where
  pub bytes : (p : ℕ) → p < count → get_or new (target p) 0 ≡ get_or bs (source p) 0
  pub others : (q : ℕ) → ((p : ℕ) → p < count → q ≡ target p → ⊥) → get_or new q 0 ≡ get_or old q 0

-- ---- the turn's steps

-- the bits in which a, shifted down by s, and b differ, where the mask stands
abbrev pub difference : ℕ → ℕ → ℕ → ℕ → ℕ
difference s m a b = bit_and (bit_xor (a / 2 ^ s) b) m

-- a with what stands in b where the mask does, s bits higher; and b with what stood there in a
unfoldable pub lower : ℕ → ℕ → ℕ → ℕ → ℕ
lower s m a b = bit_xor a (difference s m a b * 2 ^ s % 2 ^ 64)

unfoldable pub upper : ℕ → ℕ → ℕ → ℕ → ℕ
upper s m a b = bit_xor b (difference s m a b)

-- the bytes of eight words, word by word
unfoldable pub bytes_of : List ℕ → List ℕ
bytes_of ws = tabulated 64 (λ p. byte_of (p % 8) (get_or ws (p / 8) 0))

-- the word r of eight bytes from a place on, least significant first
abbrev pub Holds : List ℕ → ℕ → ℕ → Type 0
Holds bs at r = (i : ℕ) → i < 8 → byte_of i r ≡ get_or bs (at + i) 0

-- eight words from a place on, each `step` behind the one before
abbrev pub HoldsEight : List ℕ → ℕ → ℕ → List ℕ → Type 0
HoldsEight bs at step ws = (j i : ℕ) → j < 8 → i < 8 → byte_of i (get_or ws j 0) ≡ get_or bs (at + j * step + i) 0

-- where the bytes of eight words go, word by word
abbrev pub word_place : ℕ → ℕ → ℕ → ℕ
word_place to step p = to + p / 8 * step + p % 8
