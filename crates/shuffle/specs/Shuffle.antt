-- 02 (h): the bytes of stored numbers, sorted by their place in the number, and back. A byte is a number below 256. Assumes nothing.
use Rattle.std.specs.Prelude.{◌≡◌, Bool, not, ◌||◌, List, [], ◌∷◌, ◌++◌, ℕ, zero, suc, ◌+◌, ◌*◌, ◌/◌, ◌%◌, eqb, ltb, length, drop, get_or, Ok, Err}
use Rattle.errors.specs.Answer.{Answer}
use Rattle.errors.specs.declared.Refusal.TheVariants.{ByteCount, NoRoom}
use Rattle.curve2.specs.Entry.{tested}

-- ---- where each byte goes

-- f 0, f 1 and so on, n of them
unfoldable pub tabulated : ℕ → (ℕ → ℕ) → List ℕ
tabulated zero f = []
tabulated (suc n) f = f 0 ∷ tabulated n (λ p. f (suc p))

-- Of rows of m bytes, byte i of row k goes to place i × n + k. What stands at p is byte p % m of row p / m.
abbrev pub place : ℕ → ℕ → ℕ → ℕ
place m n p = p % m * n + p / m

-- n rows of m bytes as m rows of n: what stands at p goes to `place m n p`, so that at p stands what stood at `place n m p`
unfoldable pub transposed : ℕ → ℕ → List ℕ → List ℕ
transposed n m bs = tabulated (m * n) (λ p. get_or bs (place n m p) 0)

-- "for n numbers of eight bytes, byte i of number k goes to place i × n + k"
unfoldable pub shuffled : List ℕ → List ℕ
unfolding transposed
shuffled bs = transposed (length bs / 8) 8 bs

-- "and its inverse": what stands at place i × n + k is byte i of number k
unfoldable pub unshuffled : List ℕ → List ℕ
unfolding transposed
unshuffled bs = transposed 8 (length bs / 8) bs

-- ---- what is tested

-- the bytes of 9,216 numbers
abbrev pub most_bytes : ℕ
most_bytes = 73728

-- 26: "a byte count that isn't a multiple of eight or is above 73,728"
abbrev pub bad_bytes : ℕ → Bool
bad_bytes n = not (eqb (n % 8) 0) || ltb most_bytes n

-- "26, tested first, and an output shorter than the input is 4 after it"
unfoldable pub bytes_entry : ℕ → ℕ → Answer (Unit {0})
bytes_entry n room = tested ((ByteCount, bad_bytes n) ∷ (NoRoom, ltb room n) ∷ [])

-- ---- what is returned, and what the output holds then

-- the bytes from the output's start on, and what stands behind them stays; "both leave the output alone"
unfoldable pub output_after : Answer (Unit {0}) → List ℕ → List ℕ → List ℕ
output_after (Ok passed) bs old = bs ++ drop (length bs) old
output_after (Err r) bs old = old

-- Both together: the answer r of a call that makes f of the input, and the output before and after it.
pub record Rearranged (f : List ℕ → List ℕ) (bs old new : List ℕ) (r : Answer (Unit {0})) : Type 0 where
  pub listed : r ≡ bytes_entry (length bs) (length old)
  pub output : new ≡ output_after (bytes_entry (length bs) (length old)) (f bs) old
