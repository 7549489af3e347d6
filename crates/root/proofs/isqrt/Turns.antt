-- A root's binary digits, one a turn. The number's digits come in two at a time from the top of a word of v + 2 digits. Assumes nothing.
use Rattle.std.proofs.Common.{◌≡◌, ℕ, ◌+◌, ◌*◌, ◌/◌, ◌%◌, ◌^◌, ◌<◌, ◌≤◌, sym, ap, ◌∙◌, lt_of_lt_of_le, mod-lt, div-lt_iff_lt-mul, pow-suc, div-add-mod', add-one, arith, pow_pos, pow_mono}
use lib.Arith.{digits_div, digits_mod}

-- After i turns the root's digits so far are q, with r left of the digits that came in, and the others stand in a.
pub record Fed (v word i q r a : ℕ) : Type 0 where
  pub sum : (q * q + r) * (2 ^ v * 4) + a ≡ word * 4 ^ i
  pub small : r ≤ 2 * q
  pub rest : a < 2 ^ v * 4
  pub short : q < 2 ^ i

pub fed_below : {v word i q r a : ℕ} (m : ℕ) → Fed v word i q r a → i ≤ m → q < 2 ^ m
fed_below m f h = lt_of_lt_of_le f.short (pow_mono h)

-- the word after the two digits at its top have gone
shifted : (p a : ℕ) → 0 < p → a * 4 % (p * 4) ≡ a % p * 4
shifted p a h = ap (λ (x : ℕ). x % (p * 4)) split ∙ digits_mod (a / p) (omega (arith, mod-lt a h))
  where
    split : a * 4 ≡ a / p * (p * 4) + a % p * 4
    split = omega (arith, div-add-mod' a p)

module _ (v word i q r a : ℕ) (f : Fed v word i q r a) where
  left : a * 4 % (2 ^ v * 4) ≡ a % 2 ^ v * 4
  left = shifted (2 ^ v) a (pow_pos v)

  -- what the turn keeps, whatever digit it finds
  kept : (q' r' : ℕ) → q' * q' + r' ≡ 4 * (q * q) + (r * 4 + a / 2 ^ v) → (q' * q' + r') * (2 ^ v * 4) + a * 4 % (2 ^ v * 4) ≡ word * 4 ^ (i + 1)
  kept q' r' e = rw (left, e, add-one i, pow-suc 4 i) (omega (arith, f.sum, div-add-mod' a (2 ^ v)))

  rest' : a * 4 % (2 ^ v * 4) < 2 ^ v * 4
  rest' = rw left (omega (arith, mod-lt a (pow_pos v)))

  pair : a / 2 ^ v < 4
  pair = (div-lt_iff_lt-mul (pow_pos v)).1 (omega (arith, f.rest))

  pub turn_0 : r * 4 + a / 2 ^ v < q * 4 + 1 → Fed v word (i + 1) (q * 2) (r * 4 + a / 2 ^ v) (a * 4 % (2 ^ v * 4))
  turn_0 h = record {
    sum = kept (q * 2) (r * 4 + a / 2 ^ v) (omega arith);
    small = omega arith;
    rest = rest';
    short = rw (add-one i, pow-suc 2 i) (omega (arith, f.short));
  }

  pub turn_1 : (d : ℕ) → d + (q * 4 + 1) ≡ r * 4 + a / 2 ^ v → Fed v word (i + 1) (q * 2 + 1) d (a * 4 % (2 ^ v * 4))
  turn_1 d h = record {
    sum = kept (q * 2 + 1) d (omega arith);
    small = omega (arith, f.small, pair);
    rest = rest';
    short = rw (add-one i, pow-suc 2 i) (omega (arith, f.short));
  }
