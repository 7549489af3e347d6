-- The votes of a list, one after the other, and what they decide. Assumes nothing.
use mathlib.Core.Path.{◌≡◌, refl, sym}
use mathlib.Core.Bool.{Bool, true, false, cond}
use mathlib.Core.List.{List, [], ◌∷◌, map}
use Prim.Native.Nat.{ℕ, zero, suc, ◌+◌, ◌-◌, ◌≤◌, ◌<◌}
use native.Mathlib.Numerals.{add-one}
use native.Mathlib.Omega.{arith}
use lib.Dec.{ltb}
use lib.ListN.{length, get_or, length-map}
use lib.Ieee.{Float}
use Rattle.std.specs.Prelude.{Ok, Err}
use Rattle.std.specs.List.{range_with_len}
use Rattle.std.proofs.lemmas.List.FromFn.{length-range_with_len, fill_by_all}
use Rattle.errors.specs.Answer.{Answer, ◌>>=◌}
use Rattle.errors.specs.declared.Refusal.{Refusal}
use Rattle.inscribed.specs.Store.{circle_at, circles_from, circles_of}
use Rattle.inscribed.specs.declared.Inscribed.{Inscribed}
use Rattle.orient.specs.Votes.{votes_from, majority}

-- ---- the votes of numbered items, one after the other

module _ (v : ℕ → Answer Bool) (count votes k : ℕ) (whole : Answer ℕ) (inv : votes_from v votes (range_with_len k (count - k)) ≡ whole) where
  module _ (h : k < count) where
    next : votes_from v votes (k ∷ range_with_len (k + 1) (count - (k + 1))) ≡ whole
    next = let z : count - k ≡ suc (count - (k + 1)) = omega arith in rw z at inv

    pub vote_yes : Ok true ≡ v k → votes_from v (votes + 1) (range_with_len (k + 1) (count - (k + 1))) ≡ whole
    unfolding votes_from
    vote_yes e = rw (add-one votes) (rw (← e) at next)

    pub vote_no : Ok false ≡ v k → votes_from v votes (range_with_len (k + 1) (count - (k + 1))) ≡ whole
    unfolding votes_from
    vote_no e = rw (← e) at next

    pub vote_refused : (n : Refusal) → Err n ≡ v k → Err n ≡ whole
    unfolding votes_from
    vote_refused n e = rw (← e) at next

  pub votes_over : count ≤ k → Ok votes ≡ whole
  unfolding votes_from
  votes_over h = let z : count - k ≡ 0 = omega arith in rw z at inv

pub votes_decide : (v : ℕ → Answer Bool) (count votes : ℕ) → Ok votes ≡ votes_from v 0 (range_with_len 0 count) → Ok (ltb (count - votes) votes) ≡ majority v (range_with_len 0 count)
unfolding majority
votes_decide v count votes e = rw (← e, length-range_with_len 0 count)

pub majority_refused : (v : ℕ → Answer Bool) (count : ℕ) (n : Refusal) → Err n ≡ votes_from v 0 (range_with_len 0 count) → Err n ≡ majority v (range_with_len 0 count)
unfolding majority
majority_refused v count n e = rw (← e)

-- ---- the items by their numbers

module _ {A : Type 0} (vote : A → Answer Bool) (at : ℕ → A) where
  votes_of_map : (xs : List ℕ) (votes : ℕ) → votes_from (λ k. vote (at k)) votes xs ≡ votes_from vote votes (map at xs)
  unfolding votes_from
  votes_of_map [] votes = refl
  votes_of_map (x ∷ xs) votes = go (vote (at x)) (votes_of_map xs)
    where
      go : (a : Answer Bool) → ((n : ℕ) → votes_from (λ k. vote (at k)) n xs ≡ votes_from vote n (map at xs))
          → (a >>= λ yes. votes_from (λ k. vote (at k)) (cond yes (suc votes) votes) xs) ≡ (a >>= λ yes. votes_from vote (cond yes (suc votes) votes) (map at xs))
      go (Ok b) more = more (cond b (suc votes) votes)
      go (Err n) more = refl

  majority_of_map : (xs : List ℕ) (ys : List A) → map at xs ≡ ys → majority (λ k. vote (at k)) xs ≡ majority vote ys
  unfolding majority
  majority_of_map xs ys e = rw (← e, votes_of_map xs 0, length-map xs at)

circles_by_number : (ns : List Float) (k n : ℕ) → map (circle_at ns) (range_with_len k n) ≡ circles_from ns k n
unfolding circles_from
circles_by_number ns k zero = refl
circles_by_number ns k (suc n) = rw (add-one k, circles_by_number ns (suc k) n)

pub majority_of_circles : (vote : Inscribed → Answer Bool) (ns : List Float) (n : ℕ) → majority (λ k. vote (circle_at ns k)) (range_with_len 0 n) ≡ majority vote (circles_of ns n)
majority_of_circles vote ns n = majority_of_map vote (circle_at ns) (range_with_len 0 n) (circles_of ns n) (circles_by_number ns 0 n)

pub majority_of_items : {A : Type 0} (vote : A → Answer Bool) (xs : List A) (d : A) → majority (λ k. vote (get_or xs k d)) (range_with_len 0 (length xs)) ≡ majority vote xs
majority_of_items vote xs d = majority_of_map vote (λ k. get_or xs k d) (range_with_len 0 (length xs)) xs (sym (fill_by_all (λ k. get_or xs k d) xs (length xs) d refl (λ k h. refl)))
