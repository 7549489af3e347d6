-- What the parts of the code hand to each other on the way to a root. Assumes nothing.
use Rattle.std.specs.Prelude.{◌≡◌, ℕ, ◌+◌, ◌*◌, ◌^◌, ◌<◌, ◌≤◌}

-- q is the whole number nearest to the root of m, which is above zero: q - 1/2 and q + 1/2 lie on either side, squared.
pub record NearRoot (m q : ℕ) : Type 0 where
  pub low : q * q < m + q
  pub high : m ≤ q * q + q

-- A number as a * 2 ^ 52 * 4 ^ k, where a has 53 or 54 digits, so that the root of a * 2 ^ 52 has 53.
pub record IsScaled (n a k : ℕ) : Type 0 where
  pub sum : n ≡ a * 2 ^ 52 * 4 ^ k
  pub low : 2 ^ 52 ≤ a
  pub high : a < 2 ^ 54
  pub short : k ≤ 1533

-- q is the root of n, and r what is left of n.
pub record Rooted (n q r : ℕ) : Type 0 where
  pub sum : q * q + r ≡ n
  pub small : r ≤ 2 * q
