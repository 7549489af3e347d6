-- 02 (i): the turn of eight 64-bit words. Assumes nothing.
use Rattle.std.specs.Prelude.{List, [], ◌∷◌, ℕ, ◌+◌, ◌*◌, ◌/◌, ◌%◌, ◌^◌, get_or}
use Rattle.shuffle.specs.Shuffle.{tabulated}

-- byte i of a word, "counted from the least significant"
abbrev pub byte_of : ℕ → ℕ → ℕ
byte_of i w = w / 2 ^ (8 * i) % 256

-- the word of these bytes, least significant first
unfoldable pub word_of : List ℕ → ℕ
word_of [] = 0
word_of (b ∷ bs) = b + 256 * word_of bs

-- "byte i of word k .. becomes byte k of word i"
unfoldable pub turned : List ℕ → List ℕ
turned ws = tabulated 8 (λ i. word_of (tabulated 8 (λ k. byte_of i (get_or ws k 0))))
