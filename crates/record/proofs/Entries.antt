-- What both entry points return and leave. Assumes nothing.
use mathlib.Core.Path.{◌≡◌, refl, sym, ap, ◌∙◌}
use mathlib.Core.Bool.{false, ◌||◌, cond}
use mathlib.Core.List.{List, [], ◌∷◌, ◌++◌}
use Prim.Native.Nat.{ℕ, zero, suc, ◌+◌, ◌≤◌}
use native.Mathlib.Omega.{arith}
use borrow.Author.Tests.{ltb-false}
use lib.Dec.{ltb}
use lib.ListN.{length, drop}
use lib.Ieee.{Float}
use Rattle.std.specs.Prelude.{Ok, Err}
use Rattle.std.specs.Int.{w16}
use Rattle.errors.specs.Answer.{◌>>=◌}
use Rattle.errors.specs.declared.Refusal.{Refusal}
use Rattle.errors.specs.declared.Refusal.TheVariants.{BadNumber, NoRoom}
use Rattle.errors.proofs.Laws.{given, passed_by, ok_is}
use Rattle.curve2.proofs.Laws.{none_bad, or_right}
use Rattle.inscribed.specs.Store.{circles_of, bad_store, bad_store_count}
use Rattle.inscribed.specs.declared.Inscribed.{Inscribed}
use Rattle.record.specs.Record.{number_at, circle_read, circles_read, counted_read, record_of, write_entry, write_record, Wrote}
use Rattle.record.specs.Code.{placed, Puts}

-- ---- the writer

module _ (ns : List Float) (count room : ℕ) (passed : Ok tt ≡ write_entry ns count room) where
  abbrev bytes : List ℕ
  bytes = record_of (circles_of ns count)

  fits : (bad_store_count ns count || ltb room (length bytes)) ≡ false
  unfolding write_entry
  fits = (none_bad ((NoRoom, bad_store_count ns count || ltb room (length bytes)) ∷ (BadNumber, bad_store ns count) ∷ []) (sym passed)).0

  pub has_room : length bytes ≤ room
  has_room = ltb-false room (length bytes) (or_right (bad_store_count ns count) _ fits)

placed_front : (bs old : List ℕ) → placed 0 bs old ≡ bs ++ drop (length bs) old
unfolding placed
placed_front bs old = let e : 0 + length bs ≡ length bs = omega arith in rw e refl

module _ (ns : List Float) (count : ℕ) (old : List ℕ) where
  pub wrote_passed : (new : List ℕ) (r : ℕ) → Ok tt ≡ write_entry ns count (length old) → Puts 0 (record_of (circles_of ns count)) old new r → Wrote (write_record ns count (length old)) old new (Ok r)
  unfolding write_record
  wrote_passed new r passed p =
      let e : r ≡ length (record_of (circles_of ns count)) = omega (arith, p.0) in
      rw (← passed) (record { listed = rw e refl; output = p.1 ∙ placed_front (record_of (circles_of ns count)) old })

  pub wrote_refused : (r : Refusal) → Err r ≡ write_entry ns count (length old) → Wrote (write_record ns count (length old)) old old (Err r)
  unfolding write_record
  wrote_refused r e = rw (← e) (record { listed = refl; output = refl })

-- ---- the reader

pub circles_count : (n : ℕ) (bs : List ℕ) (x : List Inscribed × List ℕ) → circles_read n bs ≡ Ok x → length x.0 ≡ n
unfolding circles_read
circles_count zero bs x e = let f : ([], bs) ≡ x = ok_is ([], bs) x e in rw (← f) refl
circles_count (suc n) bs x e =
    let one = given (circle_read bs) (λ c. circles_read n c.1 >>= λ cs. Ok (c.0 ∷ cs.0, cs.1)) x e in
    let c = one.value in
    let others = given (circles_read n c.1) (λ cs. Ok (c.0 ∷ cs.0, cs.1)) x one.gives in
    let cs = others.value in
    let f : (c.0 ∷ cs.0, cs.1) ≡ x = ok_is (c.0 ∷ cs.0, cs.1) x others.gives in
    rw (← f) (ap suc (circles_count n c.1 cs others.is))

-- as many circles as there are slots at most
pub read_few : (bs : List ℕ) (most : ℕ) (cs : List Inscribed) (rest : List ℕ) → Ok (cs, rest) ≡ counted_read bs most → length cs ≤ most
unfolding counted_read
read_few bs most cs rest e =
    let count = given (number_at w16 bs) (λ n. cond (ltb most n.0) (Err NoRoom) (circles_read n.0 n.1)) (cs, rest) (sym e) in
    let n = count.value in
    let g = passed_by (ltb most n.0) NoRoom (circles_read n.0 n.1) (cs, rest) count.gives in
    omega (arith, circles_count n.0 n.1 (cs, rest) g.1, ltb-false most n.0 g.0)
