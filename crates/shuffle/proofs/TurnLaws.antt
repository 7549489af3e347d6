-- Laws of the turn: what one exchange does to each byte, at any width; what a round does; what three rounds do; and that the turn undoes itself. Assumes nothing.
use mathlib.Core.Path.{◌≡◌, refl, ◌∙◌, sym, ap}
use mathlib.Core.Bool.{cond}
use mathlib.Core.Logic.{◌⊎◌, inl, inr, ⊎_elim}
use mathlib.Core.List.{List, [], ◌∷◌}
use Prim.Native.Nat.{ℕ, zero, suc, ◌+◌, ◌-◌, ◌*◌, ◌/◌, ◌%◌, ◌^◌, ◌≤◌, ◌<◌}
use native.Mathlib.Nat.{mod-eq_of_lt, eq-zero-or-pos}
use native.Mathlib.Omega.{arith}
use lib.Dec.{eqb}
use lib.Bits.{bit_xor, and_mask, and_zero_r, xor_zero_r, xor_comm}
use lib.ListN.{length, get_or}
use lib.Seq.{ext_get_or}
use Rattle.shuffle.specs.Shuffle.{tabulated}
use Rattle.shuffle.specs.Words.{byte_of, word_of, turned}
use Rattle.shuffle.specs.Law.{TurnLaw}
use Rattle.shuffle.specs.Code.{difference, lower, upper}
use Rattle.shuffle.proofs.ByteLaws.{byte_lt, xor_byte, and_byte, down_byte, up_byte, up-low, xor_back, tabulated_same, word_bytes, byte_word}
use Rattle.shuffle.proofs.MovedLaws.{order, tabulated-length, tabulated-at}

-- whether byte or word i stands in the upper of two neighbouring runs of d
abbrev pub half : ℕ → ℕ → ℕ
half d i = i / d % 2

-- a width in bytes, and its mask, which stands over the lower of each two runs
pub record Width (d m : ℕ) : Type 0 where
  pub most : d ≤ 4
  pub mask : (i : ℕ) → i < 8 → byte_of i m ≡ cond (eqb (half d i) 0) 255 0
  pub two : (i : ℕ) → (half d i ≡ 0) ⊎ (half d i ≡ 1)
  pub upper_follows : (i : ℕ) → i < 8 → half d i ≡ 1 → (d ≤ i) × (half d (i - d) ≡ 0)
  pub lower_follows : (i : ℕ) → i < 8 → half d i ≡ 0 → d ≤ i → half d (i - d) ≡ 1

-- ---- one exchange

module _ (d m a b : ℕ) (w : Width d m) where
  -- where the mask doesn't stand nothing differs, and where it does all that differs
  none : (i : ℕ) → i < 8 → half d i ≡ 1 → byte_of i (difference (8 * d) m a b) ≡ 0
  none i h e =
      and_byte i (bit_xor (a / 2 ^ (8 * d)) b) m ∙ rw (rw e at (w.mask i h)) (and_zero_r (byte_of i (bit_xor (a / 2 ^ (8 * d)) b)))

  all : (i : ℕ) → i < 8 → half d i ≡ 0 → byte_of i (difference (8 * d) m a b) ≡ bit_xor (byte_of (i + d) a) (byte_of i b)
  all i h e =
      and_byte i (bit_xor (a / 2 ^ (8 * d)) b) m
      ∙ rw (rw e at (w.mask i h)) (and_mask (byte_of i (bit_xor (a / 2 ^ (8 * d)) b)) 8 ∙ mod-eq_of_lt (byte_lt i (bit_xor (a / 2 ^ (8 * d)) b)))
      ∙ xor_byte i (a / 2 ^ (8 * d)) b
      ∙ rw (down_byte i d a)

  pub upper-kept : (i : ℕ) → i < 8 → half d i ≡ 1 → byte_of i (upper (8 * d) m a b) ≡ byte_of i b
  unfolding upper
  upper-kept i h e = xor_byte i b (difference (8 * d) m a b) ∙ rw (none i h e) (xor_zero_r (byte_of i b))

  pub upper_taken : (i : ℕ) → i < 8 → half d i ≡ 0 → byte_of i (upper (8 * d) m a b) ≡ byte_of (i + d) a
  unfolding upper
  upper_taken i h e =
      xor_byte i b (difference (8 * d) m a b)
      ∙ rw (all i h e, xor_comm (byte_of (i + d) a) (byte_of i b)) (xor_back (byte_of i b) (byte_of (i + d) a))

  raised : (j i : ℕ) → i < 8 → i ≡ j + d → byte_of i (difference (8 * d) m a b * 2 ^ (8 * d) % 2 ^ 64) ≡ byte_of j (difference (8 * d) m a b)
  raised j i h f = rw f (up_byte j d (difference (8 * d) m a b) (omega arith))

  pub lower-kept : (i : ℕ) → i < 8 → half d i ≡ 0 → byte_of i (lower (8 * d) m a b) ≡ byte_of i a
  unfolding lower
  lower-kept i h e =
      xor_byte i a (difference (8 * d) m a b * 2 ^ (8 * d) % 2 ^ 64)
      ∙ rw (⊎_elim there below (order i d)) (xor_zero_r (byte_of i a))
    where
      below : i < d → byte_of i (difference (8 * d) m a b * 2 ^ (8 * d) % 2 ^ 64) ≡ 0
      below l = up-low i d (difference (8 * d) m a b) l (omega (arith, w.most))

      there : d ≤ i → byte_of i (difference (8 * d) m a b * 2 ^ (8 * d) % 2 ^ 64) ≡ 0
      there g = raised (i - d) i h (omega arith) ∙ none (i - d) (omega arith) (w.lower_follows i h e g)

  pub lower_taken : (i : ℕ) → i < 8 → half d i ≡ 1 → byte_of i (lower (8 * d) m a b) ≡ byte_of (i - d) b
  unfolding lower
  lower_taken i h e =
      xor_byte i a (difference (8 * d) m a b * 2 ^ (8 * d) % 2 ^ 64)
      ∙ rw (raised (i - d) i h (omega (arith, (w.upper_follows i h e).0)) ∙ all (i - d) (omega arith) (w.upper_follows i h e).1, sum) (xor_back (byte_of i a) (byte_of (i - d) b))
    where
      sum : i - d + d ≡ i
      sum = omega (arith, (w.upper_follows i h e).0)

-- ---- a round: every two words that are d apart

abbrev pub round : ℕ → ℕ → (ℕ → ℕ) → ℕ → ℕ
round d m ws r = cond (eqb (half d r) 0) (lower (8 * d) m (ws r) (ws (r + d))) (upper (8 * d) m (ws (r - d)) (ws r))

-- k, in the half in which i is
abbrev pub partner : ℕ → ℕ → ℕ → ℕ
partner d k i = cond (eqb (half d k) (half d i)) k (cond (eqb (half d k) 0) (k + d) (k - d))

module _ (d m : ℕ) (w : Width d m) where
  pub partner_sum : (k i : ℕ) → k < 8 → partner d k i ≡ k - half d k * d + half d i * d
  partner_sum k i h =
      ⊎_elim
      (λ (e : half d k ≡ 0). ⊎_elim (λ (f : half d i ≡ 0). rw (e, f) (omega arith)) (λ (f : half d i ≡ 1). rw (e, f) (omega arith)) (w.two i))
      (λ (e : half d k ≡ 1). ⊎_elim (λ (f : half d i ≡ 0). rw (e, f) (omega arith)) (λ (f : half d i ≡ 1). rw (e, f) (omega (arith, (w.upper_follows k h e).0))) (w.two i))
      (w.two k)

  -- byte i of word r comes from its partner
  pub round_byte : (ws : ℕ → ℕ) (r i : ℕ) → r < 8 → i < 8 → byte_of i (round d m ws r) ≡ byte_of (partner d i r) (ws (partner d r i))
  round_byte ws r i h l =
      ⊎_elim
      (λ (e : half d r ≡ 0). ⊎_elim
      (λ (f : half d i ≡ 0). rw (e, f) (lower-kept d m (ws r) (ws (r + d)) w i l f))
      (λ (f : half d i ≡ 1). rw (e, f) (lower_taken d m (ws r) (ws (r + d)) w i l f))
      (w.two i))
      (λ (e : half d r ≡ 1). ⊎_elim
      (λ (f : half d i ≡ 0). rw (e, f) (upper_taken d m (ws (r - d)) (ws r) w i l f))
      (λ (f : half d i ≡ 1). rw (e, f) (upper-kept d m (ws (r - d)) (ws r) w i l f))
      (w.two i))
      (w.two r)

-- ---- three rounds

-- for each of eight
pub eight : (P : ℕ → Type 0) → P 0 → P 1 → P 2 → P 3 → P 4 → P 5 → P 6 → P 7 → (i : ℕ) → i < 8 → P i
eight P a b c d e f g h zero l = a
eight P a b c d e f g h (suc zero) l = b
eight P a b c d e f g h (suc (suc zero)) l = c
eight P a b c d e f g h (suc (suc (suc zero))) l = d
eight P a b c d e f g h (suc (suc (suc (suc zero)))) l = e
eight P a b c d e f g h (suc (suc (suc (suc (suc zero))))) l = f
eight P a b c d e f g h (suc (suc (suc (suc (suc (suc zero)))))) l = g
eight P a b c d e f g h (suc (suc (suc (suc (suc (suc (suc zero))))))) l = h
eight P a b c d e f g h (suc (suc (suc (suc (suc (suc (suc (suc i)))))))) l = absurd (omega arith)

abbrev pub mask4 : ℕ
mask4 = 0x0000_0000_ffff_ffff

abbrev pub mask2 : ℕ
mask2 = 0x0000_ffff_0000_ffff

abbrev pub mask1 : ℕ
mask1 = 0x00ff_00ff_00ff_00ff

two_halves : (x : ℕ) → (x % 2 ≡ 0) ⊎ (x % 2 ≡ 1)
two_halves x = ⊎_elim (λ e. inl e) (λ e. inr (omega arith)) (eq-zero-or-pos (x % 2))

pub width4 : Width 4 mask4
width4 =
    record {
      most = omega arith;
      mask = eight (λ (i : ℕ). byte_of i mask4 ≡ cond (eqb (half 4 i) 0) 255 0) refl refl refl refl refl refl refl refl;
      two = λ i. two_halves (i / 4);
      upper_follows = λ i h e. (omega arith, omega arith);
      lower_follows = λ i h e l. omega arith;
    }

pub width2 : Width 2 mask2
width2 =
    record {
      most = omega arith;
      mask = eight (λ (i : ℕ). byte_of i mask2 ≡ cond (eqb (half 2 i) 0) 255 0) refl refl refl refl refl refl refl refl;
      two = λ i. two_halves (i / 2);
      upper_follows = λ i h e. (omega arith, omega arith);
      lower_follows = λ i h e l. omega arith;
    }

pub width1 : Width 1 mask1
width1 =
    record {
      most = omega arith;
      mask = eight (λ (i : ℕ). byte_of i mask1 ≡ cond (eqb (half 1 i) 0) 255 0) refl refl refl refl refl refl refl refl;
      two = λ i. two_halves (i / 1);
      upper_follows = λ i h e. (omega arith, omega arith);
      lower_follows = λ i h e l. omega arith;
    }

-- k with its half of width d taken from i
abbrev took : ℕ → ℕ → ℕ → ℕ
took d k i = k - half d k * d + half d i * d

-- all three halves taken
abbrev Taken : ℕ → ℕ → Type 0
Taken r i = took 4 (took 2 (took 1 r i) (took 1 i r)) (took 2 (took 1 i r) (took 1 r i)) ≡ i

all_taken : (r : ℕ) → r < 8 → (i : ℕ) → i < 8 → Taken r i
all_taken =
    eight
    (λ (r : ℕ). (i : ℕ) → i < 8 → Taken r i)
    (eight (Taken 0) refl refl refl refl refl refl refl refl)
    (eight (Taken 1) refl refl refl refl refl refl refl refl)
    (eight (Taken 2) refl refl refl refl refl refl refl refl)
    (eight (Taken 3) refl refl refl refl refl refl refl refl)
    (eight (Taken 4) refl refl refl refl refl refl refl refl)
    (eight (Taken 5) refl refl refl refl refl refl refl refl)
    (eight (Taken 6) refl refl refl refl refl refl refl refl)
    (eight (Taken 7) refl refl refl refl refl refl refl refl)

took_below : (d k i : ℕ) → k < 8 → (d ≡ 1) ⊎ (d ≡ 2) → took d k i < 8
took_below d k i h e = ⊎_elim (λ (f : d ≡ 1). rw f (omega arith)) (λ (f : d ≡ 2). rw f (omega arith)) e

abbrev pub rounds : (ℕ → ℕ) → ℕ → ℕ
rounds ws = round 1 mask1 (round 2 mask2 (round 4 mask4 ws))

module _ (ws : ℕ → ℕ) where
  pub rounds_byte : (r i : ℕ) → r < 8 → i < 8 → byte_of i (rounds ws r) ≡ byte_of r (ws i)
  rounds_byte r i h l =
      let r1 = partner 1 r i in
      let i1 = partner 1 i r in
      let a = partner_sum 1 mask1 width1 r i h in
      let b = partner_sum 1 mask1 width1 i r l in
      let h1 : r1 < 8 = rw a (took_below 1 r i h (inl refl)) in
      let l1 : i1 < 8 = rw b (took_below 1 i r l (inl refl)) in
      let r2 = partner 2 r1 i1 in
      let i2 = partner 2 i1 r1 in
      let c = partner_sum 2 mask2 width2 r1 i1 h1 in
      let d = partner_sum 2 mask2 width2 i1 r1 l1 in
      let h2 : r2 < 8 = rw c (took_below 2 r1 i1 h1 (inr refl)) in
      let l2 : i2 < 8 = rw d (took_below 2 i1 r1 l1 (inr refl)) in
      round_byte 1 mask1 width1 (round 2 mask2 (round 4 mask4 ws)) r i h l
      ∙ round_byte 2 mask2 width2 (round 4 mask4 ws) r1 i1 h1 l1
      ∙ round_byte 4 mask4 width4 ws r2 i2 h2 l2
      ∙ rw (partner_sum 4 mask4 width4 r2 i2 h2, partner_sum 4 mask4 width4 i2 r2 l2, c, d, a, b, all_taken r h i l, all_taken i l r h)

  -- a word of the turn
  pub rounds-word : (r : ℕ) → r < 8 → rounds ws r < 2 ^ 64 → rounds ws r ≡ word_of (tabulated 8 (λ k. byte_of r (ws k)))
  rounds-word r l h =
      sym (word_bytes 8 (rounds ws r) h) ∙ ap word_of (tabulated_same 8 (λ i. byte_of i (rounds ws r)) (λ k. byte_of r (ws k)) (λ i q. rounds_byte r i l q))

-- ---- the turn

-- a list of n is the table of its elements
pub listed : (n : ℕ) (ws : List ℕ) → length ws ≡ n → ws ≡ tabulated n (λ k. get_or ws k 0)
listed n ws e =
    ext_get_or 0 ws (tabulated n (λ k. get_or ws k 0)) (e ∙ sym (tabulated-length n (λ k. get_or ws k 0))) (λ p h. sym (tabulated-at n (λ k. get_or ws k 0) p (omega arith)))

-- eight words, each of three rounds and below 2^64, are the turn
pub rounds-turned : (ws : List ℕ) (xs : ℕ → ℕ) → ((r : ℕ) → r < 8 → xs r ≡ rounds (λ k. get_or ws k 0) r) → ((r : ℕ) → r < 8 → xs r < 2 ^ 64) → tabulated 8 xs ≡ turned ws
unfolding turned
rounds-turned ws xs is fit =
    tabulated_same 8 xs (λ i. word_of (tabulated 8 (λ k. byte_of i (get_or ws k 0)))) (λ r h. is r h ∙ rounds-word (λ k. get_or ws k 0) r h (rw (is r h) at (fit r h)))

-- the same of eight words one by one
module _ (ws : List ℕ) (x0 x1 x2 x3 x4 x5 x6 x7 : ℕ) where
  abbrev all_words : List ℕ
  all_words = x0 ∷ (x1 ∷ (x2 ∷ (x3 ∷ (x4 ∷ (x5 ∷ (x6 ∷ (x7 ∷ [])))))))

  Is : ℕ → Type 0
  Is r = (get_or all_words r 0 ≡ rounds (λ k. get_or ws k 0) r) × (get_or all_words r 0 < 2 ^ 64)

  pub words_turned : (x0 ≡ rounds (λ k. get_or ws k 0) 0) × (x0 < 2 ^ 64) → (x1 ≡ rounds (λ k. get_or ws k 0) 1) × (x1 < 2 ^ 64) → (x2 ≡ rounds (λ k. get_or ws k 0) 2) × (x2 < 2 ^ 64) → (x3 ≡ rounds (λ k. get_or ws k 0) 3) × (x3 < 2 ^ 64) → (x4 ≡ rounds (λ k. get_or ws k 0) 4) × (x4 < 2 ^ 64) → (x5 ≡ rounds (λ k. get_or ws k 0) 5) × (x5 < 2 ^ 64) → (x6 ≡ rounds (λ k. get_or ws k 0) 6) × (x6 < 2 ^ 64) → (x7 ≡ rounds (λ k. get_or ws k 0) 7) × (x7 < 2 ^ 64) → all_words ≡ turned ws
  unfolding tabulated Is
  words_turned e0 e1 e2 e3 e4 e5 e6 e7 =
      let is = eight Is e0 e1 e2 e3 e4 e5 e6 e7 in
      rounds-turned ws (λ r. get_or all_words r 0) (λ r h. (is r h).0) (λ r h. (is r h).1)

-- byte i of word k of the turn is byte k of word i
pub turned_byte : (ws : List ℕ) (k i : ℕ) → k < 8 → i < 8 → byte_of i (get_or (turned ws) k 0) ≡ byte_of k (get_or ws i 0)
unfolding turned
turned_byte ws k i h l =
    rw (tabulated-at 8 (λ j. word_of (tabulated 8 (λ p. byte_of j (get_or ws p 0)))) k h)
    (byte_word 8 (λ p. byte_of k (get_or ws p 0)) (λ p q. byte_lt k (get_or ws p 0)) i l)

module _ (ws : List ℕ) (whole : length ws ≡ 8) (fit : (k : ℕ) → get_or ws k 0 < 2 ^ 64) where
  again : (i : ℕ) → i < 8 → word_of (tabulated 8 (λ k. byte_of i (get_or (turned ws) k 0))) ≡ get_or ws i 0
  again i h =
      ap word_of (tabulated_same 8 (λ k. byte_of i (get_or (turned ws) k 0)) (λ k. byte_of k (get_or ws i 0)) (λ k l. turned_byte ws k i l h))
      ∙ word_bytes 8 (get_or ws i 0) (fit i)

  twice_table : turned (turned ws) ≡ tabulated 8 (λ k. get_or ws k 0)
  unfolding turned
  twice_table = tabulated_same 8 (λ i. word_of (tabulated 8 (λ k. byte_of i (get_or (turned ws) k 0)))) (λ k. get_or ws k 0) again

  pub turn_law : TurnLaw ws
  turn_law = record { bytes = λ i k h l. turned_byte ws i k h l; twice = twice_table ∙ sym (listed 8 ws whole) }
