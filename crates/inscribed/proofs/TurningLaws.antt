-- Circles that change places from both ends inwards, and contacts that are swapped one circle after the other. Assumes nothing.
use mathlib.Core.Path.{◌≡◌, refl, sym, ap, ◌∙◌}
use mathlib.Core.List.{List, [], ◌∷◌, ◌++◌, map, reverse, map-append, append_assoc, append-nil, reverse-cons, reverse-append}
use Prim.Native.Nat.{ℕ, suc, ◌+◌, ◌-◌, ◌*◌, ◌≤◌, ◌<◌}
use native.Mathlib.Omega.{arith}
use lib.ListN.{length, length-append, length-map, length-reverse, take, drop}
use lib.Seq.{take_at, drop-append-add, get_or-append_seam}
use lib.Ieee.{Float}
use Rattle.inscribed.specs.Circles.{reversed_points}
use Rattle.inscribed.specs.Store.{width, circle_at, circles_of, all_numbers, numbers_of, stored}
use Rattle.inscribed.specs.Code.{with_circle}
use Rattle.inscribed.specs.declared.Inscribed.{Inscribed}
use Rattle.inscribed.proofs.StoreLaws.{length_all, numbers-append, length-circles, circles_of-stored, circle_of-stored, stored-again, stored_longer}
use Rattle.inscribed.specs.Lists.{turned}

-- ---- lists

-- both ends change places
reverse-ends : (a : Inscribed) (cs : List Inscribed) (b : Inscribed) → reverse (a ∷ (cs ++ (b ∷ []))) ≡ b ∷ (reverse cs ++ (a ∷ []))
reverse-ends a cs b = reverse-cons a (cs ++ (b ∷ [])) ∙ ap (λ (l : List Inscribed). l ++ (a ∷ [])) (reverse-append cs (b ∷ []))

record Snoc (l : List Inscribed) : Type 0 where
  before : List Inscribed
  end : Inscribed
  is : l ≡ before ++ (end ∷ [])

snoc_of : (x : Inscribed) (xs : List Inscribed) → Snoc (x ∷ xs)
snoc_of x [] = record { before = []; end = x; is = refl }
snoc_of x (y ∷ ys) = let s = snoc_of y ys in record { before = x ∷ s.before; end = s.end; is = ap (λ (l : List Inscribed). x ∷ l) s.is }

-- ---- one circle in the middle of a store

put_among : (xs : List Inscribed) (x c : Inscribed) (ys : List Inscribed) (rest : List Float)
    → take (length xs * width) (all_numbers xs ++ (all_numbers (x ∷ ys) ++ rest)) ++ numbers_of c ++ drop (length xs * width + width) (all_numbers xs ++ (all_numbers (x ∷ ys) ++ rest))
    ≡ all_numbers xs ++ (all_numbers (c ∷ ys) ++ rest)
unfolding all_numbers numbers_of
put_among xs x c ys rest =
    let w : length xs * width + width ≡ length (all_numbers xs) + width = omega (arith, length_all xs) in
    rw (take_at (all_numbers xs) (all_numbers (x ∷ ys) ++ rest) (length xs * width) (omega (arith, length_all xs)), w, drop-append-add (all_numbers xs) (all_numbers (x ∷ ys) ++ rest) width)
    (append_assoc (all_numbers xs) (numbers_of c) (all_numbers ys ++ rest))

put-stored : (xs : List Inscribed) (x c : Inscribed) (ys : List Inscribed) (old : List Float) → with_circle (stored (xs ++ x ∷ ys) old) (length xs) c ≡ stored (xs ++ c ∷ ys) old
unfolding with_circle stored
put-stored xs x c ys old =
    let same : width * length (xs ++ c ∷ ys) ≡ width * length (xs ++ x ∷ ys) = omega (arith, length-append xs (c ∷ ys), length-append xs (x ∷ ys)) in
    let rest = drop (width * length (xs ++ x ∷ ys)) old in
    rw (same, numbers-append xs (x ∷ ys), numbers-append xs (c ∷ ys), append_assoc (all_numbers xs) (all_numbers (x ∷ ys)) rest, append_assoc (all_numbers xs) (all_numbers (c ∷ ys)) rest)
    (put_among xs x c ys rest)

get_stored : (xs : List Inscribed) (x : Inscribed) (ys : List Inscribed) (old : List Float) → circle_at (stored (xs ++ x ∷ ys) old) (length xs) ≡ x
get_stored xs x ys old = circle_of-stored (xs ++ x ∷ ys) old (length xs) x (omega (arith, length-append xs (x ∷ ys))) ∙ get_or-append_seam xs x ys x

-- ---- the states of the loop: the circles between i and j have still to change places

pub record Turning (old : List Float) (whole : List Inscribed) (store : List Float) (i j : ℕ) : Type 0 where
  pub front : List Inscribed
  pub middle : List Inscribed
  pub back : List Inscribed
  pub front_long : length front ≡ i
  pub middle_long : length middle ≡ j - i
  pub holds : store ≡ stored (front ++ (middle ++ back)) old
  pub left : front ++ (reverse middle ++ back) ≡ whole

pub turn_start : (old : List Float) (n : ℕ) → n * width ≤ length old → Turning old (reverse (circles_of old n)) old 0 (n - 0)
turn_start old n h = record {
  front = [];
  middle = circles_of old n;
  back = [];
  front_long = refl;
  middle_long = omega (arith, length-circles old 0 n);
  holds = rw (append-nil (circles_of old n)) (sym (stored-again old n (omega arith)));
  left = append-nil (reverse (circles_of old n));
}

module _ (old : List Float) (whole : List Inscribed) (store : List Float) (i j : ℕ) where
  -- one circle in the middle keeps its place
  pub turn_over : Turning old whole store i j → j ≤ i + 1 → store ≡ stored whole old
  turn_over t h = go t.middle t.middle_long t.holds t.left
    where
      go : (m : List Inscribed) → length m ≡ j - i → store ≡ stored (t.front ++ (m ++ t.back)) old → t.front ++ (reverse m ++ t.back) ≡ whole → store ≡ stored whole old
      go [] l s w = s ∙ ap (λ (x : List Inscribed). stored x old) w
      go (x ∷ []) l s w = s ∙ ap (λ (x : List Inscribed). stored x old) w
      go (x ∷ (y ∷ m)) l s w = absurd (omega (arith, l))

  abbrev swapped : List Float
  swapped = with_circle (with_circle store i (circle_at store (j - 1))) (j - 1) (circle_at store i)

  module _ (front back : List Inscribed) (long : length front ≡ i) where
    step_two : (a : Inscribed) (cs : List Inscribed) (b : Inscribed) → suc (suc (length cs)) ≡ j - i → store ≡ stored (front ++ (a ∷ (cs ++ (b ∷ [])) ++ back)) old → front ++ (reverse (a ∷ (cs ++ (b ∷ []))) ++ back) ≡ whole
        → Turning old whole swapped (i + 1) (j - 1)
    step_two a cs b l s w =
        let k : j - 1 ≡ length (front ++ (b ∷ cs)) = omega (arith, long, length-append front (b ∷ cs)) in
        let k' : j - 1 ≡ length (front ++ (a ∷ cs)) = omega (arith, long, length-append front (a ∷ cs)) in
        let inner : (x : Inscribed) → front ++ (x ∷ (cs ++ (b ∷ [])) ++ back) ≡ (front ++ (x ∷ cs)) ++ (b ∷ back) = λ x. ap (λ (y : List Inscribed). front ++ (x ∷ y)) (append_assoc cs (b ∷ []) back) ∙ sym (append_assoc front (x ∷ cs) (b ∷ back)) in
        let first : circle_at store i ≡ a = rw (s, ← long) (get_stored front a (cs ++ (b ∷ []) ++ back) old) in
        let last : circle_at store (j - 1) ≡ b = rw (s, inner a, k') (get_stored (front ++ (a ∷ cs)) b back old) in
        let put_first : with_circle store i b ≡ stored ((front ++ (b ∷ cs)) ++ (b ∷ back)) old = rw (s, ← long) (put-stored front a b (cs ++ (b ∷ []) ++ back) old) ∙ ap (λ (x : List Inscribed). stored x old) (inner b) in
        let moved : swapped ≡ stored ((front ++ (b ∷ cs)) ++ (a ∷ back)) old = rw (first, last, put_first, k) (put-stored (front ++ (b ∷ cs)) b a back old) in
        let again : (front ++ (b ∷ cs)) ++ (a ∷ back) ≡ (front ++ (b ∷ [])) ++ (cs ++ (a ∷ back)) = append_assoc front (b ∷ cs) (a ∷ back) ∙ sym (append_assoc front (b ∷ []) (cs ++ (a ∷ back))) in
        record {
          front = front ++ (b ∷ []);
          middle = cs;
          back = a ∷ back;
          front_long = omega (arith, length-append front (b ∷ []), long);
          middle_long = omega (arith, l);
          holds = moved ∙ ap (λ (x : List Inscribed). stored x old) again;
          left = append_assoc front (b ∷ []) (reverse cs ++ (a ∷ back)) ∙ ap (λ (y : List Inscribed). front ++ (b ∷ y)) (sym (append_assoc (reverse cs) (a ∷ []) back)) ∙ ap (λ (y : List Inscribed). front ++ (y ++ back)) (sym (reverse-ends a cs b)) ∙ w;
        }

  pub turn_step : Turning old whole store i j → i + 1 < j → Turning old whole swapped (i + 1) (j - 1)
  turn_step t h = go t.middle t.middle_long t.holds t.left
    where
      go : (m : List Inscribed) → length m ≡ j - i → store ≡ stored (t.front ++ (m ++ t.back)) old → t.front ++ (reverse m ++ t.back) ≡ whole → Turning old whole swapped (i + 1) (j - 1)
      go [] l s w = absurd (omega (arith, l))
      go (a ∷ []) l s w = absurd (omega (arith, l))
      go (a ∷ (x ∷ xs)) l s w =
          let e = snoc_of x xs in
          step_two t.front t.back t.front_long a e.before e.end (omega (arith, l, ap length e.is, length-append e.before (e.end ∷ []))) (rw (← e.is) s) (rw (← e.is) w)

-- ---- the contacts of one circle after the other

-- the circles from k on have still their own contacts
pub record Swapping (old : List Float) (whole : List Inscribed) (n : ℕ) (store : List Float) (k : ℕ) : Type 0 where
  pub done : List Inscribed
  pub rest : List Inscribed
  pub done_long : length done ≡ k
  pub rest_long : length rest ≡ n - k
  pub holds : store ≡ stored (done ++ rest) old
  pub left : done ++ map reversed_points rest ≡ whole

pub swap_start : (old : List Float) (n : ℕ) → n * width ≤ length old → Swapping old (map reversed_points (circles_of old n)) n old 0
swap_start old n h = record {
  done = [];
  rest = circles_of old n;
  done_long = refl;
  rest_long = omega (arith, length-circles old 0 n);
  holds = sym (stored-again old n (omega arith));
  left = refl;
}

module _ (old : List Float) (whole : List Inscribed) (n : ℕ) (store : List Float) (k : ℕ) where
  pub swap_over : Swapping old whole n store k → n ≤ k → store ≡ stored whole old
  swap_over t h = go t.rest t.rest_long t.holds t.left
    where
      go : (m : List Inscribed) → length m ≡ n - k → store ≡ stored (t.done ++ m) old → t.done ++ map reversed_points m ≡ whole → store ≡ stored whole old
      go [] l s w = s ∙ ap (λ (x : List Inscribed). stored x old) w
      go (x ∷ m) l s w = absurd (omega (arith, l))

  pub swap_step : Swapping old whole n store k → k < n → Swapping old whole n (with_circle store k (reversed_points (circle_at store k))) (k + 1)
  swap_step t h = go t.rest t.rest_long t.holds t.left
    where
      go : (m : List Inscribed) → length m ≡ n - k → store ≡ stored (t.done ++ m) old → t.done ++ map reversed_points m ≡ whole → Swapping old whole n (with_circle store k (reversed_points (circle_at store k))) (k + 1)
      go [] l s w = absurd (omega (arith, l))
      go (x ∷ m) l s w =
          let at : circle_at store (length t.done) ≡ x = rw s (get_stored t.done x m old) in
          let moved : with_circle store k (reversed_points (circle_at store k)) ≡ stored (t.done ++ (reversed_points x ∷ m)) old = rw (← t.done_long, at, s) (put-stored t.done x (reversed_points x) m old) in
          record {
            done = t.done ++ (reversed_points x ∷ []);
            rest = m;
            done_long = omega (arith, length-append t.done (reversed_points x ∷ []), t.done_long);
            rest_long = omega (arith, l);
            holds = moved ∙ ap (λ (y : List Inscribed). stored y old) (sym (append_assoc t.done (reversed_points x ∷ []) m));
            left = append_assoc t.done (reversed_points x ∷ []) (map reversed_points m) ∙ w;
          }

-- ---- both, one after the other

map-reverse : (f : Inscribed → Inscribed) (cs : List Inscribed) → map f (reverse cs) ≡ reverse (map f cs)
map-reverse f [] = refl
map-reverse f (x ∷ xs) = rw (reverse-cons x xs, map-append f (reverse xs) (x ∷ []), map-reverse f xs, reverse-cons (f x) (map f xs))

circles-again : (cs : List Inscribed) (old : List Float) (n : ℕ) → n ≡ length cs → circles_of (stored cs old) n ≡ cs
circles-again cs old n e = rw e (circles_of-stored cs old)

pub turn_both : (old : List Float) (n : ℕ) (mid : List Float) → mid ≡ stored (reverse (circles_of old n)) old → stored (map reversed_points (circles_of mid n)) mid ≡ stored (turned (circles_of old n)) old
unfolding turned
turn_both old n mid e =
    let cs = circles_of old n in
    let long : length (reverse cs) ≡ n = length-reverse cs ∙ length-circles old 0 n in
    rw (e, circles-again (reverse cs) old n (sym long), stored_longer (map reversed_points (reverse cs)) (reverse cs) old (omega (arith, length-map (reverse cs) reversed_points)), map-reverse reversed_points cs)
