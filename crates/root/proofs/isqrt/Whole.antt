-- Roots of whole numbers: `whole_root` is the root, and there is one. Assumes nothing.
use Rattle.std.proofs.Common.{◌≡◌, ℕ, zero, suc, ◌*◌, ◌/◌, ◌^◌, ◌<◌, ◌≤◌, Bool, true, false, cond, not, T, leb, le_trans, lt_of_lt_of_le, le_of_suc-le-suc, mul-le-mul, le_antisymm, pow-suc, lt_of_not-le, not-le_of_lt, arith, leb→le}
use lib.Dec.{nleb→lt}
use lib.Ieee.{size}
use lib.Ieee.Digits.{size-lt}
use Rattle.root.specs.Sqrt.{IsRoot, root_digits, whole_root}

-- ---- there is one root

pub le-root : (n a b : ℕ) → a * a ≤ n → n < suc b * suc b → a ≤ b
le-root n a b h k = le_of_suc-le-suc (lt_of_not-le (λ (g : suc b ≤ a). not-le_of_lt k (le_trans (mul-le-mul g g) h)))

pub root_unique : {n a b : ℕ} → IsRoot n a → IsRoot n b → a ≡ b
root_unique {n} {a} {b} p q = le_antisymm (le-root n a b p.below q.above) (le-root n b a q.below p.above)

-- ---- it has the digits that `root_digits` finds

digit : (n p : ℕ) → IsRoot (n / 4) p → IsRoot n (cond (leb (suc (2 * p) * suc (2 * p)) n) (suc (2 * p)) (2 * p))
digit n p h = go (leb (suc (2 * p) * suc (2 * p)) n) (leb→le (suc (2 * p) * suc (2 * p)) n) (nleb→lt (suc (2 * p) * suc (2 * p)) n)
  where
    go : (b : Bool) → (T b → suc (2 * p) * suc (2 * p) ≤ n) → (T (not b) → n < suc (2 * p) * suc (2 * p)) → IsRoot n (cond b (suc (2 * p)) (2 * p))
    go true t f = record { below = t tt; above = omega (arith, h.above) }
    go false t f = record { below = omega (arith, h.below); above = f tt }

digits-root : (d n : ℕ) → n < 4 ^ d → IsRoot n (root_digits d n)
unfolding root_digits
digits-root zero n h = record { below = omega arith; above = omega arith }
digits-root (suc d) n h = digit n (root_digits d (n / 4)) (digits-root d (n / 4) (omega (arith, pow-suc 4 d)))

below_four : (d : ℕ) → 2 ^ d ≤ 4 ^ d
below_four zero = omega arith
below_four (suc d) = omega (arith, pow-suc 2 d, pow-suc 4 d, below_four d)

pub whole_root_lem : (n : ℕ) → IsRoot n (whole_root n)
unfolding whole_root
whole_root_lem n = digits-root (size n) n (lt_of_lt_of_le (size-lt n) (below_four (size n)))
