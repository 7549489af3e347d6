-- Circles put into a store, and into a record, one after the other. Assumes nothing.
use mathlib.Core.Path.{◌≡◌, refl, ◌∙◌}
use mathlib.Core.List.{List, [], ◌++◌}
use Prim.Native.Nat.{ℕ, suc, ◌+◌, ◌≤◌, ◌<◌}
use native.Mathlib.Omega.{arith}
use lib.ListN.{length, get_or, take, length-take}
use lib.Seq.{take-suc}
use lib.Ieee.{Float}
use Rattle.inscribed.specs.Store.{all_numbers, stored}
use Rattle.inscribed.specs.Code.{with_circle}
use Rattle.inscribed.specs.declared.Inscribed.{Inscribed}
use Rattle.inscribed.proofs.StoreLaws.{stored_push}
use Rattle.record.specs.Record.{short_bytes, circles_record, record_of}
use Rattle.record.specs.Code.{placed, Puts}
use Rattle.record.proofs.Placed.{Left, left_start, left_room, left_put}

pub store_none : (old : List Float) → old ≡ stored [] old
unfolding stored all_numbers
store_none old = refl

pub store_more : (cs : List Inscribed) (k : ℕ) (d : Inscribed) (old mid new : List Float) → k < length cs → mid ≡ stored (take k cs) old → new ≡ with_circle mid k (get_or cs k d) → new ≡ stored (take (k + 1) cs) old
store_more cs k d old mid new h e n =
    let next : k + 1 ≡ suc k = omega arith in
    let long : length (take k cs) ≡ k = omega (arith, length-take k cs) in
    rw (next, take-suc cs k d h) (n ∙ rw e (rw long at (stored_push (take k cs) old (get_or cs k d))))

-- ---- the count, and what is left then

module _ (cs : List Inscribed) (n : ℕ) (bs out : List ℕ) (long : length cs ≡ n) (is : bs ≡ short_bytes n) (room : length (record_of cs) ≤ length out) where
  start : Left 0 (short_bytes (length cs) ++ circles_record cs) out (0 + length (record_of cs)) (placed 0 (record_of cs) out)
  unfolding record_of
  start = left_start 0 (short_bytes (length cs) ++ circles_record cs) out (omega (arith, room))

  same : bs ≡ short_bytes (length cs)
  same = rw long is

  pub count_room : 0 + length bs ≤ length out
  count_room = rw same (left_room 0 (short_bytes (length cs)) (circles_record cs) out _ _ start)

  pub count_put : (new : List ℕ) (r : ℕ) → Puts 0 bs out new r → Left r (circles_record cs) new (0 + length (record_of cs)) (placed 0 (record_of cs) out)
  count_put new r p = left_put 0 (short_bytes (length cs)) (circles_record cs) out _ _ new r start (rw same at p)
