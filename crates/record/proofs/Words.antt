-- The bits of numbers: of a NaN, of what isn't finite, and the bits of a map. Assumes nothing.
use mathlib.Core.Path.{◌≡◌, refl, sym, ◌∙◌}
use mathlib.Core.Bool.{Bool, true, false, not, cond, true≢false}
use mathlib.Core.List.{List, [], ◌∷◌, ◌++◌}
use Prim.Native.Nat.{ℕ, suc, ◌+◌, ◌*◌, ◌%◌, ◌^◌, ◌≤◌, ◌<◌}
use native.Mathlib.Nat.{pow-suc, pow-le-pow_right}
use native.Mathlib.Omega.{arith}
use borrow.Author.Tests.{eq-eqb, ne_eqb, lt-ltb}
use lib.Dec.{T, eqb, lit≤}
use Rattle.std.proofs.lemmas.Float.{not_nan_f64_bits}
use mir.Val.{bool_byte}
use Rattle.std.specs.Int.{w16, w64, to_le_bytes}
use lib.ListN.{length, get_or, drop}
use lib.Seq.{drop-cons}
use Rattle.std.proofs.lemmas.List.{drop_all}
use lib.Ieee.{Float, nan, inf, fin, binary64, is_nan, to_bits, of_bits, nan_bits}
use lib.Ieee.Scale.{finite}
use lib.Ieee.Bits.{nan_bits_is, nan_bits_above}
use Rattle.std.specs.Prelude.{Err}
use Rattle.errors.specs.declared.Refusal.TheVariants.{BadNumber}
use Rattle.inscribed.specs.Store.{bad_length}
use Rattle.record.specs.Record.{is_zero, short_bytes, word_bytes, map_of, fields_of, is_length, bad_field, number_of_field}

-- ---- bits of what is no number

pub nan_word : (x : Float) → is_nan x ≡ true → 0x7ff8_0000_0000_0000 ≡ to_bits binary64 x
unfolding is_nan to_bits
nan_word nan h = refl
nan_word (inf s) h = absurd (true≢false (sym h))
nan_word (fin s m e) h = absurd (true≢false (sym h))

pub nan_bad : (i : ℕ) (x : Float) → is_nan x ≡ true → bad_field i x ≡ true
unfolding is_nan
nan_bad i nan h = go (is_length i)
  where
    go : (b : Bool) → cond b (bad_length nan) (not (finite nan)) ≡ true
    go true = refl
    go false = refl
nan_bad i (inf s) h = absurd (true≢false (sym h))
nan_bad i (fin s m e) h = absurd (true≢false (sym h))

-- a word above an infinity's is a NaN's
pub nan_refused : (i bits : ℕ) → (bits ≡ 0 → ⊥) → 0x7ff0_0000_0000_0000 < bits % 0x8000_0000_0000_0000 → Err BadNumber ≡ number_of_field i bits
unfolding number_of_field
nan_refused i bits n h =
    let is : is_nan (of_bits binary64 bits) ≡ true = sym (nan_bits_is binary64 bits) ∙ nan_bits_above binary64 bits ∙ lt-ltb _ _ h in
    rw (ne_eqb bits 0 n, nan_bad i (of_bits binary64 bits) is)

pub no_nan : (bits : ℕ) → bits % 0x8000_0000_0000_0000 ≤ 0x7ff0_0000_0000_0000 → T (not (nan_bits binary64 bits))
no_nan bits h = not_nan_f64_bits bits h

-- ---- the bits of a map

pub map_below : (xs : List Float) → map_of xs < 2 ^ length xs
unfolding map_of
map_below [] = omega arith
map_below (x ∷ xs) = rw (pow-suc 2 (length xs)) (go (is_zero x) (2 ^ length xs) (map_of xs) (map_below xs))
  where
    go : (b : Bool) (p m : ℕ) → m < p → cond b 0 1 + 2 * m < p * 2
    go true p m h = omega (arith, h)
    go false p m h = omega (arith, h)

pub map_few : (xs : List Float) → length xs ≤ 8 → map_of xs < 256
map_few xs h = let most : 2 ^ length xs ≤ 2 ^ 8 = pow-le-pow_right (lit≤ tt) h in omega (arith, most, map_below xs)

pub map_none : (xs : List Float) (i : ℕ) → length xs ≤ i → 0 ≡ map_of (drop i xs)
unfolding map_of
map_none xs i h = rw (drop_all i xs h) refl

-- the bit of a number, as the code has it
pub bit_is : (x : Float) (bits bit : ℕ) → bits ≡ to_bits binary64 x → bit ≡ bool_byte (not (eqb bits 0)) → bit ≡ cond (is_zero x) 0 1
unfolding is_zero
bit_is x bits bit e h = (rw e at h) ∙ go (eqb (to_bits binary64 x) 0)
  where
    go : (b : Bool) → bool_byte (not b) ≡ cond b 0 1
    go true = refl
    go false = refl

pub bit_small : (x : Float) (bit : ℕ) → bit ≡ cond (is_zero x) 0 1 → bit ≤ 1
bit_small x bit e = go (is_zero x) e
  where
    go : (b : Bool) → bit ≡ cond b 0 1 → bit ≤ 1
    go true h = omega (arith, h)
    go false h = omega (arith, h)

-- the bit at place p, below those from place q on
pub map_step : (xs : List Float) (p q map bit : ℕ) → q ≡ suc p → p < length xs → map ≡ map_of (drop q xs) → bit ≡ cond (is_zero (get_or xs p nan)) 0 1 → 2 * map + bit ≡ map_of (drop p xs)
unfolding map_of
map_step xs p q map bit n h e b = rw (drop-cons xs p nan h, e, n, b) (omega arith)

-- ---- the fields of numbers, one by one

pub clear : (x : Float) (bits : ℕ) → bits ≡ to_bits binary64 x → bits ≡ 0 → is_zero x ≡ true
unfolding is_zero
clear x bits e n = eq-eqb (to_bits binary64 x) 0 (sym e ∙ n)

pub set : (x : Float) (bits : ℕ) → bits ≡ to_bits binary64 x → (bits ≡ 0 → ⊥) → is_zero x ≡ false
unfolding is_zero
set x bits e n = ne_eqb (to_bits binary64 x) 0 (λ z. n (e ∙ z))

pub fields_done : (xs : List Float) (i : ℕ) → length xs ≤ i → fields_of (drop i xs) ≡ []
unfolding fields_of
fields_done xs i h = rw (drop_all i xs h) refl

-- bytes as std writes them
pub word_is : (bs : List ℕ) (n : ℕ) → bs ≡ to_le_bytes w64 n → bs ≡ word_bytes n
unfolding word_bytes
word_is bs n e = e

pub short_is : (bs : List ℕ) (n : ℕ) → bs ≡ to_le_bytes w16 n → bs ≡ short_bytes n
unfolding short_bytes
short_is bs n e = e

module _ (xs : List Float) (i bits : ℕ) (h : i < length xs) (e : bits ≡ to_bits binary64 (get_or xs i nan)) where
  pub field_first : (bits ≡ 0 → ⊥) → fields_of (drop i xs) ≡ word_bytes bits ++ fields_of (drop (i + 1) xs)
  unfolding fields_of
  field_first n =
      let next : i + 1 ≡ suc i = omega arith in
      let z = set (get_or xs i nan) bits e n in
      rw (drop-cons xs i nan h, next, z, e) refl

  pub field_none : bits ≡ 0 → fields_of (drop i xs) ≡ fields_of (drop (i + 1) xs)
  unfolding fields_of
  field_none n =
      let next : i + 1 ≡ suc i = omega arith in
      let z = clear (get_or xs i nan) bits e n in
      rw (drop-cons xs i nan h, next, z) refl
