-- Numbers and circles read one after the other: what was read before, and what is still read. Assumes nothing.
use mathlib.Core.Path.{◌≡◌, refl, sym, ap, ◌∙◌}
use mathlib.Core.List.{List, [], ◌∷◌, ◌++◌, append_assoc, append-nil}
use Prim.Native.Nat.{ℕ, zero, suc, ◌+◌, ◌-◌, ◌/◌, ◌≤◌, ◌<◌}
use native.Mathlib.Omega.{arith}
use lib.ListN.{length, take, set}
use lib.Seq.{take-suc-set, take-length}
use lib.Ieee.{Float}
use Rattle.std.specs.Prelude.{Ok, Err}
use Rattle.errors.specs.Answer.{Answer, ◌>>=◌}
use Rattle.errors.specs.declared.Refusal.{Refusal}
use Rattle.inscribed.specs.declared.Inscribed.{Inscribed}
use Rattle.inscribed.specs.Store.{width}
use Rattle.record.specs.Record.{number_from, numbers_at, circle_read, circles_read}

abbrev pub with_front : {A : Type 0} → List A → Answer (List A × List ℕ) → Answer (List A × List ℕ)
with_front front read = read >>= λ xs. Ok (front ++ xs.0, xs.1)

regroup : {A : Type 0} (front : List A) (x : A) (read : Answer (List A × List ℕ)) → with_front front (read >>= λ xs. Ok (x ∷ xs.0, xs.1)) ≡ with_front (front ++ x ∷ []) read
regroup front x (Ok xs) = ap (λ zs. Ok (zs, xs.1)) (simp append_assoc)
regroup front x (Err r) = refl

pub alone : {A : Type 0} (read : Answer (List A × List ℕ)) → with_front [] read ≡ read
alone (Ok xs) = refl
alone (Err r) = refl

-- one of them, and the others from the bytes behind it
abbrev and_others : {A : Type 0} → Answer (A × List ℕ) → (List ℕ → Answer (List A × List ℕ)) → Answer (List A × List ℕ)
and_others one others = one >>= λ x. others x.1 >>= λ xs. Ok (x.0 ∷ xs.0, xs.1)

module _ {A : Type 0} (total : Answer (List A × List ℕ)) where
  one_refused : (front : List A) (one : Answer (A × List ℕ)) (others : List ℕ → Answer (List A × List ℕ)) (r : Refusal) → Err r ≡ one → with_front front (and_others one others) ≡ total → Err r ≡ total
  one_refused front one others r e s = rw (← e) at s

  one_passed : (front : List A) (one : Answer (A × List ℕ)) (others : List ℕ → Answer (List A × List ℕ)) (x : A) (behind : List ℕ) → Ok (x, behind) ≡ one → with_front front (and_others one others) ≡ total
      → with_front (front ++ x ∷ []) (others behind) ≡ total
  one_passed front one others x behind e s = sym (regroup front x (others behind)) ∙ (rw (← e) at s)

  none_left : (front : List A) (bs : List ℕ) → with_front front (Ok ([], bs)) ≡ total → Ok (front, bs) ≡ total
  none_left front bs s = ap (λ zs. Ok (zs, bs)) (sym (append-nil front)) ∙ s

-- ---- numbers that are put into an array

module _ (total : Answer (List Float × List ℕ)) where
  pub number_refused : (front : List Float) (n i map : ℕ) (bs : List ℕ) (r : Refusal) → 0 < n → Err r ≡ number_from i map bs → with_front front (numbers_at n i map bs) ≡ total → Err r ≡ total
  unfolding numbers_at
  number_refused front zero i map bs r h e s = absurd (omega (arith, h))
  number_refused front (suc n) i map bs r h e s = one_refused total front (number_from i map bs) (numbers_at n (suc i) (map / 2)) r e s

  number_next : (front : List Float) (n i map : ℕ) (bs : List ℕ) (x : Float) (behind : List ℕ) → 0 < n → Ok (x, behind) ≡ number_from i map bs → with_front front (numbers_at n i map bs) ≡ total
      → with_front (front ++ x ∷ []) (numbers_at (n - 1) (i + 1) (map / 2) behind) ≡ total
  unfolding numbers_at
  number_next front zero i map bs x behind h e s = absurd (omega (arith, h))
  number_next front (suc n) i map bs x behind h e s =
      let less : suc n - 1 ≡ n = omega arith in
      let next : i + 1 ≡ suc i = omega arith in
      rw (less, next) (one_passed total front (number_from i map bs) (numbers_at n (suc i) (map / 2)) x behind e s)

  pub array_next : (ns : List Float) (i map : ℕ) (bs : List ℕ) (x : Float) (behind : List ℕ) → length ns ≡ width → i < width → Ok (x, behind) ≡ number_from i map bs → with_front (take i ns) (numbers_at (width - i) i map bs) ≡ total
      → with_front (take (i + 1) (set ns i x)) (numbers_at (width - (i + 1)) (i + 1) (map / 2) behind) ≡ total
  array_next ns i map bs x behind long h e s =
      let next : i + 1 ≡ suc i = omega arith in
      let less : width - (i + 1) ≡ width - i - 1 = omega arith in
      rw (less) (rw (next, take-suc-set ns i x (omega (arith, long, h))) (rw next at (number_next (take i ns) (width - i) i map bs x behind (omega (arith, h)) e s)))

  pub array_end : (ns : List Float) (i map : ℕ) (bs : List ℕ) → length ns ≡ width → width ≤ i → i ≤ width → with_front (take i ns) (numbers_at (width - i) i map bs) ≡ total → Ok (ns, bs) ≡ total
  unfolding numbers_at
  array_end ns i map bs long h l s =
      let none : width - i ≡ 0 = omega (arith, h) in
      let all : take i ns ≡ ns = let e : i ≡ length ns = omega (arith, long, h, l) in rw e (take-length ns) in
      none_left total ns bs (rw (none, all) at s)

-- ---- circles

module _ (total : Answer (List Inscribed × List ℕ)) where
  pub circle_refused : (front : List Inscribed) (n : ℕ) (bs : List ℕ) (r : Refusal) → 0 < n → Err r ≡ circle_read bs → with_front front (circles_read n bs) ≡ total → Err r ≡ total
  unfolding circles_read
  circle_refused front zero bs r h e s = absurd (omega (arith, h))
  circle_refused front (suc n) bs r h e s = one_refused total front (circle_read bs) (circles_read n) r e s

  pub circle_next : (front : List Inscribed) (n : ℕ) (bs : List ℕ) (c : Inscribed) (behind : List ℕ) → 0 < n → Ok (c, behind) ≡ circle_read bs → with_front front (circles_read n bs) ≡ total
      → with_front (front ++ c ∷ []) (circles_read (n - 1) behind) ≡ total
  unfolding circles_read
  circle_next front zero bs c behind h e s = absurd (omega (arith, h))
  circle_next front (suc n) bs c behind h e s =
      let less : suc n - 1 ≡ n = omega arith in
      rw less (one_passed total front (circle_read bs) (circles_read n) c behind e s)

  pub circles_end : (front : List Inscribed) (bs : List ℕ) → with_front front (circles_read 0 bs) ≡ total → Ok (front, bs) ≡ total
  unfolding circles_read
  circles_end front bs s = none_left total front bs s
