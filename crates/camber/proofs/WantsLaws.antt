-- A state in which a unit is wanted: what it hands out holds all of it, and passes the test of 27. Assumes nothing.
use mathlib.Core.Path.{◌≡◌, refl, ap, ◌∙◌}
use mathlib.Core.Bool.{Bool, true, false}
use mathlib.Core.List.{List, [], ◌∷◌, reverse, reverse-cons, reverse-reverse}
use Prim.Native.Nat.{ℕ, suc, ◌*◌, ◌≤◌, ◌<◌, min}
use native.Mathlib.Omega.{arith}
use borrow.Author.Tests.{le-ltb, lt-ltb, ne_eqb}
use lib.Dec.{ltb}
use lib.ListN.{length, replicate, length-replicate, length-reverse}
use lib.Ieee.{Float}
use Rattle.curve2.proofs.Laws.{or_left, or_right}
use Rattle.points.specs.Numbers.{f0}
use Rattle.runs.specs.Run.{pays}
use Rattle.inscribed.specs.Store.{width, slots_within, bad_circle, any_bad, bad_store_within}
use Rattle.inscribed.specs.declared.Inscribed.{Inscribed}
use Rattle.inscribed.proofs.StoreLaws.{stored_length, circles_of-stored}
use Rattle.refine.specs.Machine.{most_waiting, State, refining, advancing, stopped, circles_in}
use Rattle.refine.specs.Code.{waiting_in, due_in}
use Rattle.refine.proofs.MoveLaws.{no_pays, goes_no_pays, move_pays}
use Rattle.refine.proofs.GoodLaws.{Good, none_more}
use Rattle.camber.specs.March.{march_step}
use Rattle.camber.specs.Paused.{waiting_numbers, state_with, handed_out, waiting_of, state_from, bad_state}

-- ---- the waiting circles in their slots

pub bad_reversed : (cs : List Inscribed) → any_bad cs ≡ false → any_bad (reverse cs) ≡ false
unfolding any_bad
bad_reversed [] h = refl
bad_reversed (c ∷ cs) h = let e = reverse-cons c cs in rw e (none_more (reverse cs) c (bad_reversed cs (or_right (bad_circle c) (any_bad cs) h)) (or_left (bad_circle c) (any_bad cs) h))

-- those that wait are read back
pub waiting_back : (b : Bool) (k : ℕ) (ws : List Inscribed) → waiting_of (state_with b k (reverse ws)) ≡ ws
waiting_back b k ws = ap reverse (circles_of-stored (reverse ws) (replicate (most_waiting * width) f0)) ∙ reverse-reverse ws

good_slots : (ws : List Inscribed) → length ws ≤ most_waiting → any_bad ws ≡ false → bad_store_within most_waiting (waiting_numbers ws) (length ws) ≡ false
good_slots ws h g =
    let room : length (waiting_numbers ws) ≡ most_waiting * width = stored_length ws (replicate (most_waiting * width) f0) (omega (arith, h, length-replicate (most_waiting * width) f0)) ∙ length-replicate (most_waiting * width) f0 in
    let few : min (length ws) (slots_within most_waiting (waiting_numbers ws)) ≡ length ws = omega (arith, h, room) in
    rw (few, circles_of-stored ws (replicate (most_waiting * width) f0)) g

-- ---- a state in which a unit is wanted: refining with some waiting or advancing, either with a circle in use

pub record Wants (s : State) : Type 0 where
  pub again : state_from (circles_in s) (handed_out s) ≡ s
  pub whole_state : Good s → (count : ℕ) → count ≡ length (circles_in s) → bad_state (handed_out s) count ≡ false
  pub told : handed_out s ≡ state_with (ltb 0 (length (waiting_in s))) (due_in s) (reverse (waiting_in s))

module _ (ns : List Float) (tol : Float) (slots : ℕ) where
  pub wanting : (s t : State) → march_step ns tol slots s ≡ pays t → Wants s
  unfolding march_step bad_state any_bad
  wanting (refining cs []) t p = goes_no_pays p
  wanting (refining cs (b ∷ ws)) t p =
      let m = move_pays ns tol slots b ws cs t p in
      let long : 0 < length cs = omega (arith, ap length m.2) in
      let n : length (reverse (b ∷ ws)) ≡ suc (length ws) = length-reverse (b ∷ ws) in
      record {
        again = ap (λ (x : List Inscribed). refining cs x) (waiting_back true 0 (b ∷ ws));
        whole_state = λ g k e.
            let few : length (reverse (b ∷ ws)) ≤ most_waiting = omega (arith, n, g.few) in
            let good : bad_store_within most_waiting (waiting_numbers (reverse (b ∷ ws))) (length (reverse (b ∷ ws))) ≡ false = good_slots (reverse (b ∷ ws)) few (bad_reversed (b ∷ ws) g.waiting) in
            rw (le-ltb most_waiting (length (reverse (b ∷ ws))) few, good, ne_eqb k 0 (λ z. omega (arith, z, e, long)), ne_eqb (length (reverse (b ∷ ws))) 0 (λ z. omega (arith, z, n))) refl;
        told = rw (lt-ltb 0 (suc (length ws)) (omega arith)) refl;
      }
  wanting (advancing [] k) t p = no_pays p
  wanting (advancing (c ∷ cs) k) t p = record {
    again = refl;
    whole_state = λ g n e.
        let good : bad_store_within most_waiting (waiting_numbers []) 0 ≡ false = good_slots [] (omega arith) refl in
        rw (good, ne_eqb n 0 (λ z. omega (arith, z, e)), le-ltb 3 k g.due) refl;
    told = refl;
  }
  wanting (stopped cs m) t p = no_pays p
