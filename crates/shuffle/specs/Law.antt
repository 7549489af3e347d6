-- What holds of both rearrangements and of the turn beside their definitions, as records with a field for each sentence. Assumes nothing.
use Rattle.std.specs.Prelude.{◌≡◌, List, ℕ, ◌+◌, ◌*◌, ◌<◌, ◌≤◌, length, get_or}
use Rattle.shuffle.specs.Shuffle.{shuffled, unshuffled}
use Rattle.shuffle.specs.Words.{byte_of, turned}

-- Of the bytes of n numbers, eight bytes to a number.
pub record ShuffleLaw (n : ℕ) (bs : List ℕ) : Type 0 where
  -- sorting moves byte i of number k to place i × n + k, and going back moves what stands there to byte i of number k
  pub sorted : (i k : ℕ) → i < 8 → k < n → get_or (shuffled bs) (i * n + k) 0 ≡ get_or bs (k * 8 + i) 0
  pub restored : (i k : ℕ) → i < 8 → k < n → get_or (unshuffled bs) (k * 8 + i) 0 ≡ get_or bs (i * n + k) 0
  -- each gives as many bytes as it takes
  pub sorted_length : length (shuffled bs) ≡ length bs
  pub restored_length : length (unshuffled bs) ≡ length bs
  -- each undoes the other
  pub sorted_undone : unshuffled (shuffled bs) ≡ bs
  pub restored_undone : shuffled (unshuffled bs) ≡ bs
  -- neither changes anything where there is no number or one
  pub sorted_few : n ≤ 1 → shuffled bs ≡ bs
  pub restored_few : n ≤ 1 → unshuffled bs ≡ bs

-- Of eight words of 64 bits.
pub record TurnLaw (ws : List ℕ) : Type 0 where
  -- byte i of word k, counted from the least significant, becomes byte k of word i
  pub bytes : (i k : ℕ) → i < 8 → k < 8 → byte_of k (get_or (turned ws) i 0) ≡ byte_of i (get_or ws k 0)
  -- the turn made twice gives the eight words back
  pub twice : turned (turned ws) ≡ ws
