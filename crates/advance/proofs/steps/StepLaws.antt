-- Law of the fractions: from number 3 on they are the last. Assumes nothing.
use mathlib.Core.Path.{◌≡◌, refl}
use Prim.Native.Nat.{ℕ, zero, suc, ◌≤◌}
use native.Mathlib.Omega.{arith}
use Rattle.advance.specs.Advance.{fraction}

pub last_fraction : (k : ℕ) → 3 ≤ k → fraction 3 ≡ fraction k
last_fraction zero h = absurd (omega arith)
last_fraction (suc zero) h = absurd (omega arith)
last_fraction (suc (suc zero)) h = absurd (omega arith)
last_fraction (suc (suc (suc k))) h = refl
