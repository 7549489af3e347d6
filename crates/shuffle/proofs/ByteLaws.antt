-- Laws of the bytes of words: of a word made of bytes, of masks and shifts. Assumes nothing.
use mathlib.Core.Path.{◌≡◌, refl, ◌∙◌, sym}
use Prim.Native.Nat.{ℕ, zero, suc, ◌+◌, ◌-◌, ◌*◌, ◌/◌, ◌%◌, ◌^◌, ◌≤◌, ◌<◌}
use native.Mathlib.Nat.{mod-lt, mul-mod_left, mul_assoc, pow-zero, div-one}
use native.Mathlib.Omega.{arith}
use lib.Arith.{bin_ind}
use lib.Pow.{pow-add, shr-shr, shl-shr, shr_lt, field, mod-mod-pow}
use lib.Bits.{bit_and, bit_xor, differ, and_shr, and_mod, xor_shr, xor_mod, xor_step}
use Rattle.shuffle.specs.Shuffle.{tabulated}
use Rattle.shuffle.specs.Words.{byte_of, word_of}

-- ---- bytes of what is done to words

pub byte_lt : (i a : ℕ) → byte_of i a < 256
byte_lt i a = mod-lt (a / 2 ^ (8 * i)) (omega arith)

pub xor_byte : (i a b : ℕ) → byte_of i (bit_xor a b) ≡ bit_xor (byte_of i a) (byte_of i b)
xor_byte i a b = rw (xor_shr a b (8 * i)) (xor_mod (a / 2 ^ (8 * i)) (b / 2 ^ (8 * i)) 8)

pub and_byte : (i a b : ℕ) → byte_of i (bit_and a b) ≡ bit_and (byte_of i a) (byte_of i b)
and_byte i a b = rw (and_shr a b (8 * i)) (and_mod (a / 2 ^ (8 * i)) (b / 2 ^ (8 * i)) 8)

pub down_byte : (i d a : ℕ) → byte_of i (a / 2 ^ (8 * d)) ≡ byte_of (i + d) a
down_byte i d a =
    let e : 8 * (i + d) ≡ 8 * d + 8 * i = omega arith in
    rw (e, ← (shr-shr a (8 * d) (8 * i)))

-- a byte below n is not cut off
pub byte_mod : (n i a : ℕ) → i < n → byte_of i (a % 2 ^ (8 * n)) ≡ byte_of i a
byte_mod n i a h = cut (8 * i) (8 * n - 8 * i - 8) (8 * n) (omega arith)
  where
    cut : (k j t : ℕ) → t ≡ j + 8 + k → a % 2 ^ t / 2 ^ k % 256 ≡ a / 2 ^ k % 256
    cut k j t e = rw (e, field a (j + 8) k) (mod-mod-pow (a / 2 ^ k) j 8)

word_byte : (i a : ℕ) → i < 8 → byte_of i (a % 2 ^ 64) ≡ byte_of i a
word_byte = byte_mod 8

pub up_byte : (i d a : ℕ) → i + d < 8 → byte_of (i + d) (a * 2 ^ (8 * d) % 2 ^ 64) ≡ byte_of i a
up_byte i d a h =
    word_byte (i + d) (a * 2 ^ (8 * d)) h ∙ sym (down_byte i d (a * 2 ^ (8 * d))) ∙ rw (shl-shr a (8 * d))

pub up-low : (i d a : ℕ) → i < d → d ≤ 8 → byte_of i (a * 2 ^ (8 * d) % 2 ^ 64) ≡ 0
up-low i d a h l = word_byte i (a * 2 ^ (8 * d)) (omega arith) ∙ none (d - i - 1) (omega arith)
  where
    none : (j : ℕ) → d ≡ j + 1 + i → byte_of i (a * 2 ^ (8 * d)) ≡ 0
    none j e =
        let f : 8 * d ≡ 8 * j + 8 + 8 * i = omega arith in
        rw (f, pow-add 2 (8 * j + 8) (8 * i), pow-add 2 (8 * j) 8, ← (mul_assoc a (2 ^ (8 * j) * 2 ^ 8) (2 ^ (8 * i))), shl-shr (a * (2 ^ (8 * j) * 2 ^ 8)) (8 * i), ← (mul_assoc a (2 ^ (8 * j)) (2 ^ 8))) (mul-mod_left (a * 2 ^ (8 * j)) 256)

-- ---- differing twice

differ-lt : (x y : ℕ) → x < 2 → y < 2 → differ x y < 2
differ-lt zero y h l = l
differ-lt (suc zero) zero h l = h
differ-lt (suc zero) (suc y) h l = omega arith
differ-lt (suc (suc x)) y h l = absurd (omega arith)

differ_back : (x y : ℕ) → x < 2 → y < 2 → differ x (differ x y) ≡ y
differ_back zero y h l = refl
differ_back (suc zero) zero h l = refl
differ_back (suc zero) (suc zero) h l = refl
differ_back (suc zero) (suc (suc y)) h l = absurd (omega arith)
differ_back (suc (suc x)) y h l = absurd (omega arith)

pub xor_back : (a b : ℕ) → bit_xor a (bit_xor a b) ≡ b
xor_back = bin_ind (λ (n : ℕ). (b : ℕ) → bit_xor n (bit_xor n b) ≡ b) (λ b. refl) step
  where
    step : (n : ℕ) → ((b : ℕ) → bit_xor (n / 2) (bit_xor (n / 2) b) ≡ b) → (b : ℕ) → bit_xor n (bit_xor n b) ≡ b
    step n ih b = back (bit_xor n b) (xor_step n b)
      where
        back : (x : ℕ) → x ≡ bit_xor (n / 2) (b / 2) * 2 + differ (n % 2) (b % 2) → bit_xor n x ≡ b
        back x e =
            let d = differ-lt (n % 2) (b % 2) (mod-lt n (omega arith)) (mod-lt b (omega arith)) in
            let f : x / 2 ≡ bit_xor (n / 2) (b / 2) = omega (arith, e, d) in
            let g : x % 2 ≡ differ (n % 2) (b % 2) = omega (arith, e, d) in
            xor_step n x ∙ rw (f, g, ih (b / 2), differ_back (n % 2) (b % 2) (mod-lt n (omega arith)) (mod-lt b (omega arith))) (omega arith)

-- ---- words and their bytes

pub tabulated_same : (n : ℕ) (f g : ℕ → ℕ) → ((p : ℕ) → p < n → f p ≡ g p) → tabulated n f ≡ tabulated n g
unfolding tabulated
tabulated_same zero f g e = refl
tabulated_same (suc n) f g e = rw (e 0 (omega arith), tabulated_same n (λ p. f (suc p)) (λ p. g (suc p)) (λ p h. e (suc p) (omega arith)))

pub next_byte : (i w : ℕ) → byte_of (suc i) w ≡ byte_of i (w / 256)
next_byte i w = let e : 8 * suc i ≡ 8 + 8 * i = omega arith in rw (e, ← (shr-shr w 8 (8 * i)))

pub first_byte : (w : ℕ) → byte_of 0 w ≡ w % 256
first_byte w = rw (pow-zero 2, div-one w)

-- a word is that of its bytes
pub word_bytes : (n w : ℕ) → w < 2 ^ (8 * n) → word_of (tabulated n (λ i. byte_of i w)) ≡ w
unfolding tabulated word_of
word_bytes zero w h = omega (arith, h)
word_bytes (suc n) w h =
    let e : 8 * suc n ≡ 8 * n + 8 = omega arith in
    let l : w / 256 < 2 ^ (8 * n) = shr_lt (8 * n) 8 (rw e at h) in
    rw (tabulated_same n (λ i. byte_of (suc i) w) (λ i. byte_of i (w / 256)) (λ p q. next_byte p w), word_bytes n (w / 256) l, first_byte w) (omega arith)

-- and its bytes are those that it is made of
pub byte_word : (n : ℕ) (f : ℕ → ℕ) → ((p : ℕ) → p < n → f p < 256) → (i : ℕ) → i < n → byte_of i (word_of (tabulated n f)) ≡ f i
unfolding tabulated word_of
byte_word zero f b i h = absurd (omega arith)
byte_word (suc n) f b zero h =
    first_byte (f 0 + 256 * word_of (tabulated n (λ p. f (suc p)))) ∙ omega (arith, b 0 (omega arith))
byte_word (suc n) f b (suc i) h =
    next_byte i (f 0 + 256 * word_of (tabulated n (λ p. f (suc p)))) ∙ rest (word_of (tabulated n (λ p. f (suc p)))) (byte_word n (λ p. f (suc p)) (λ p l. b (suc p) (omega arith)) i (omega arith))
  where
    rest : (r : ℕ) → byte_of i r ≡ f (suc i) → byte_of i ((f 0 + 256 * r) / 256) ≡ f (suc i)
    rest r e = let g : (f 0 + 256 * r) / 256 ≡ r = omega (arith, b 0 (omega arith)) in rw g e
