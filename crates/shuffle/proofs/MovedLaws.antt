-- Laws of moved bytes: one more, some more, and all. Assumes nothing.
use mathlib.Core.Path.{◌≡◌, refl, ◌∙◌, sym}
use mathlib.Core.Logic.{◌⊎◌, inl, inr, ⊎_elim}
use mathlib.Core.List.{List, ◌++◌}
use Prim.Native.Nat.{ℕ, zero, suc, ◌+◌, ◌-◌, ◌≤◌, ◌<◌}
use native.Mathlib.Nat.{eq-zero-or-pos}
use native.Mathlib.Omega.{arith}
use lib.ListN.{length, drop, get_or, set, length-append, length-drop, get_or-append}
use lib.Seq.{get_or-set_same, get_or-set_other, get_or-append-add, get_or-drop, ext_get_or}
use Rattle.shuffle.specs.Shuffle.{tabulated}
use Rattle.shuffle.specs.Code.{Distinct, Bounded, Moved}

-- ---- a table

pub tabulated-length : (n : ℕ) (f : ℕ → ℕ) → length (tabulated n f) ≡ n
unfolding tabulated
tabulated-length zero f = refl
tabulated-length (suc n) f = rw (tabulated-length n (λ p. f (suc p)))

pub tabulated-at : (n : ℕ) (f : ℕ → ℕ) (p : ℕ) → p < n → get_or (tabulated n f) p 0 ≡ f p
unfolding tabulated
tabulated-at zero f p h = absurd (omega arith)
tabulated-at (suc n) f zero h = refl
tabulated-at (suc n) f (suc p) h = tabulated-at n (λ q. f (suc q)) p (omega arith)

-- ---- bytes moved

-- below i, or not
pub order : (p i : ℕ) → (i ≤ p) ⊎ (p < i)
order p i = ⊎_elim (λ e. inl (omega arith)) (λ e. inr (omega arith)) (eq-zero-or-pos (i - p))

module _ (source target : ℕ → ℕ) (bs old : List ℕ) where
  -- one more
  module _ (i : ℕ) (mid : List ℕ) (m : Moved source target i bs old mid) (room : target i < length mid) (apart : (p : ℕ) → p < i → target p ≡ target i → ⊥) where
    one_byte : (p : ℕ) → p < i + 1 → get_or (set mid (target i) (get_or bs (source i) 0)) (target p) 0 ≡ get_or bs (source p) 0
    one_byte p h =
        ⊎_elim
        (λ g. let e : p ≡ i = omega arith in rw e (get_or-set_same mid (target i) (get_or bs (source i) 0) 0 room))
        (λ l. get_or-set_other mid (target i) (target p) (get_or bs (source i) 0) 0 (apart p l) ∙ m.bytes p l)
        (order p i)

    pub moved_one : Moved source target (i + 1) bs old (set mid (target i) (get_or bs (source i) 0))
    moved_one =
        record {
          bytes = one_byte;
          others = λ q h. get_or-set_other mid (target i) q (get_or bs (source i) 0) 0 (h i (omega arith)) ∙ m.others q (λ p l. h p (omega arith));
        }

  -- some more, by a step that counts its own bytes from 0
  module _ (a b : ℕ) (mid new : List ℕ) (source₂ target₂ : ℕ → ℕ)
      (same_source : (j : ℕ) → j < b → source (a + j) ≡ source₂ j) (same_target : (j : ℕ) → j < b → target (a + j) ≡ target₂ j)
      (apart : Distinct target (a + b)) (m : Moved source target a bs old mid) (n : Moved source₂ target₂ b bs mid new) where
    more_byte : (p : ℕ) → p < a + b → get_or new (target p) 0 ≡ get_or bs (source p) 0
    more_byte p h =
        ⊎_elim
        (λ g. later (p - a) (omega arith) p (omega arith))
        (λ l. n.others (target p) (λ j k e. let z : p ≡ a + j = apart p (a + j) (omega arith) (omega arith) (e ∙ sym (same_target j k)) in omega arith) ∙ m.bytes p l)
        (order p a)
      where
        later : (j : ℕ) → j < b → (p : ℕ) → p ≡ a + j → get_or new (target p) 0 ≡ get_or bs (source p) 0
        later j k p e = rw (e, same_target j k, same_source j k) (n.bytes j k)

    pub moved_more : Moved source target (a + b) bs old new
    moved_more =
        record {
          bytes = more_byte;
          others = λ q h. n.others q (λ j k e. h (a + j) (omega arith) (e ∙ sym (same_target j k))) ∙ m.others q (λ p l. h p (omega arith));
        }

  -- all: `back` says which byte stands at a place, and f which byte of bs that is
  module _ (count : ℕ) (new : List ℕ) (m : Moved source target count bs old new) (room : count ≤ length old) (kept : length new ≡ length old)
      (within : Bounded target count count) (back f : ℕ → ℕ) (inside : Bounded back count count) (there : (q : ℕ) → q < count → target (back q) ≡ q)
      (from : (q : ℕ) → q < count → source (back q) ≡ f q) where
    abbrev table : List ℕ
    table = tabulated count (λ q. get_or bs (f q) 0)

    table-length : length table ≡ count
    table-length = tabulated-length count (λ q. get_or bs (f q) 0)

    front : (q : ℕ) → q < count → get_or new q 0 ≡ get_or (table ++ drop count old) q 0
    front q l =
        (rw (there q l, from q l) at (m.bytes (back q) (inside q l)))
        ∙ sym (get_or-append table (drop count old) 0 q (rw table-length l) ∙ tabulated-at count (λ p. get_or bs (f p) 0) q l)

    after_table : (j q : ℕ) → q ≡ length table + j → get_or (table ++ drop count old) q 0 ≡ get_or old q 0
    after_table j q e = rw (e, get_or-append-add table (drop count old) j 0, get_or-drop count old j 0, table-length)

    rest : (q : ℕ) → count ≤ q → get_or new q 0 ≡ get_or (table ++ drop count old) q 0
    rest q g = m.others q (λ p h e. let l = within p h in omega arith) ∙ sym (after_table (q - count) q (omega (arith, table-length)))

    pub moved_all : new ≡ tabulated count (λ q. get_or bs (f q) 0) ++ drop count old
    moved_all =
        ext_get_or
        0
        new
        (table ++ drop count old)
        (kept ∙ simp (length-append, length-drop, table-length) (omega arith))
        (λ q h. ⊎_elim (rest q) (front q) (order q count))

-- the same bytes counted in another order, from other places of another list
module _ (source target source₂ target₂ : ℕ → ℕ) (count : ℕ) (bs bs₂ old new : List ℕ) (order₂ : ℕ → ℕ)
    (inside : Bounded order₂ count count) (twice : (p : ℕ) → p < count → order₂ (order₂ p) ≡ p)
    (same_target : (p : ℕ) → p < count → target (order₂ p) ≡ target₂ p)
    (same_byte : (p : ℕ) → p < count → get_or bs (source (order₂ p)) 0 ≡ get_or bs₂ (source₂ p) 0) where
  pub moved_from : Moved source target count bs old new → Moved source₂ target₂ count bs₂ old new
  moved_from m =
      record {
        bytes = λ p h. (rw (same_target p h) at (m.bytes (order₂ p) (inside p h))) ∙ same_byte p h;
        others = λ q h. m.others q (λ p l e. h (order₂ p) (inside p l) (e ∙ (rw (twice p l) at (same_target (order₂ p) (inside p l)))));
      }
