-- What is read is what the writer gives. Assumes nothing.
use mathlib.Core.Path.{◌≡◌, refl, sym, ap, subst, ◌∙◌}
use mathlib.Core.Bool.{Bool, true, false, not, ◌&&◌, ◌||◌, cond, true≢false}
use mathlib.Core.List.{List, [], ◌∷◌, ◌++◌, append_assoc, append-nil}
use Prim.Native.Nat.{ℕ, zero, suc, ◌+◌, ◌*◌, ◌/◌, ◌%◌, ◌^◌, ◌<◌, ◌≤◌}
use native.Mathlib.Omega.{arith}
use native.Mathlib.Nat.{pow-suc}
use borrow.Author.Tests.{eqb-true, eqb-false, ltb-false, not-false}
use lib.Dec.{T, eqb, ltb}
use lib.ListN.{length, get_or, take, drop, length-take, take-append-drop}
use lib.Ieee.{Float, binary64, nan, fits, of_bits, to_bits, is_nan, lt}
use lib.Ieee.Scale.{finite}
use lib.Ieee.Bits.{to_bits-of_bits, of_bits-fits}
use Rattle.std.specs.Prelude.{Ok, Err}
use Rattle.std.specs.Int.{Width, w16, w64, byte_len, to_le_bytes, from_le_bytes}
use Rattle.std.proofs.lemmas.Bool.{cases_lt}
use Rattle.std.proofs.lemmas.List.{get_or-drop, get_or-take, get_or_past, nil_from_length}
use Rattle.std.proofs.lemmas.Nat.{le_bytes_2, le_bytes_8}
use Rattle.std.proofs.Common.{inl, inr}
use Rattle.errors.specs.Answer.{◌>>=◌}
use Rattle.errors.specs.declared.Refusal.TheVariants.{BadNumber, NoRoom, RecordLength, RecordMap}
use Rattle.points.specs.Numbers.{f0}
use Rattle.inscribed.specs.Store.{width, numbers_of, circle_from, bad_length, bad_circle, any_bad}
use Rattle.inscribed.specs.declared.Inscribed.{Inscribed}
use Rattle.record.specs.Record.{short_bytes, word_bytes, is_zero, map_of, fields_of, circle_record, circles_record, record_of, number_at, is_length, bad_field, number_of_field, field_at, number_from, numbers_at, most_map, circle_read, circles_read, counted_read, all_read, read_record}
use Rattle.errors.proofs.Laws.{given, passed_by, passed_on, ok_is}
use Rattle.record.proofs.Words.{nan_bad}
use Rattle.record.proofs.Written.{Good, Fits, AllFit, none, more}

-- ---- bytes

abbrev pub IsBytes : List ℕ → Type 0
IsBytes bs = (i : ℕ) → get_or bs i 0 < 256

bytes-drop : (n : ℕ) (bs : List ℕ) → IsBytes bs → IsBytes (drop n bs)
bytes-drop n bs h i = rw get_or-drop (h (n + i))

bytes-take : (n : ℕ) (bs : List ℕ) → IsBytes bs → IsBytes (take n bs)
bytes-take n bs h i =
    elim (cases_lt i n) [
      | inl lt ↦ rw (get_or-take n bs i 0 lt) (h i)
      | inr le ↦ rw (get_or_past (take n bs) i 0 (omega (arith, length-take n bs))) (omega arith)
    ]

-- what a reader took from the front
pub record Takes (bs text rest : List ℕ) : Type 0 where
  pub parts : text ++ rest ≡ bs
  pub rest_fits : IsBytes rest

takes-then : (a x b y c : List ℕ) → Takes a x b → Takes b y c → Takes a (x ++ y) c
takes-then a x b y c p q = record { parts = append_assoc x y c ∙ ap (λ (t : List ℕ). x ++ t) q.parts ∙ p.parts; rest_fits = q.rest_fits }

-- the number at the front, of any width
record Front (w : Width) (bs : List ℕ) (n : ℕ) (rest : List ℕ) : Type 0 where
  long : byte_len w ≤ length bs
  value : from_le_bytes w (take (byte_len w) bs) ≡ n
  behind : drop (byte_len w) bs ≡ rest

front : (w : Width) (bs : List ℕ) (n : ℕ) (rest : List ℕ) → number_at w bs ≡ Ok (n, rest) → Front w bs n rest
front w bs n rest e =
    let g = passed_by (ltb (length bs) (byte_len w)) RecordLength (Ok (from_le_bytes w (take (byte_len w) bs), drop (byte_len w) bs)) (n, rest) e in
    let is = ok_is (from_le_bytes w (take (byte_len w) bs), drop (byte_len w) bs) (n, rest) g.1 in
    record { long = ltb-false (length bs) (byte_len w) g.0; value = ap (λ (p : ℕ × List ℕ). p.0) is; behind = ap (λ (p : ℕ × List ℕ). p.1) is }

front_takes : (w : Width) (bs : List ℕ) (n : ℕ) (rest : List ℕ) → IsBytes bs → ((xs : List ℕ) (m : ℕ) → length xs ≡ byte_len w → IsBytes xs → m ≡ from_le_bytes w xs → to_le_bytes w m ≡ xs)
    → Front w bs n rest → Takes bs (to_le_bytes w n) rest
front_takes w bs n rest fits kept f =
    let k = byte_len w in
    let bytes : to_le_bytes w n ≡ take k bs = kept (take k bs) n (omega (arith, length-take k bs, f.long)) (bytes-take k bs fits) (sym f.value) in
    record { parts = ap (λ (t : List ℕ). t ++ rest) bytes ∙ ap (λ (t : List ℕ). take k bs ++ t) (sym f.behind) ∙ take-append-drop k bs; rest_fits = subst IsBytes f.behind (bytes-drop k bs fits) }

short_takes : (bs : List ℕ) (n : ℕ) (rest : List ℕ) → IsBytes bs → number_at w16 bs ≡ Ok (n, rest) → Takes bs (short_bytes n) rest
unfolding short_bytes
short_takes bs n rest fits e = front_takes w16 bs n rest fits le_bytes_2 (front w16 bs n rest e)

word_takes : (bs : List ℕ) (n : ℕ) (rest : List ℕ) → IsBytes bs → number_at w64 bs ≡ Ok (n, rest) → Takes bs (word_bytes n) rest × (n < 2 ^ 64)
unfolding word_bytes
word_takes bs n rest fits e =
    let f = front w64 bs n rest e in
    let b = bytes-take 8 bs fits in
    (front_takes w64 bs n rest fits le_bytes_8 f, subst (λ (m : ℕ). m < 2 ^ 64) f.value (omega (arith, b 0, b 1, b 2, b 3, b 4, b 5, b 6, b 7)))

-- ---- a field

-- a number that passed the test of 2 is no NaN
good_number : (i : ℕ) (x : Float) → bad_field i x ≡ false → T (not (is_nan x))
good_number i x h = go (is_nan x) refl
  where
    go : (b : Bool) → is_nan x ≡ b → T (not b)
    go true e = absurd (true≢false (sym (nan_bad i x e) ∙ h))
    go false e = tt

nonzero : (x : Float) (n : ℕ) → to_bits binary64 x ≡ n → eqb n 0 ≡ false → is_zero x ≡ false
unfolding is_zero
nonzero x n e h = rw e h

field_takes : (i : ℕ) (bs : List ℕ) (y : Float × List ℕ) → IsBytes bs → field_at i bs ≡ Ok y → Takes bs (word_bytes (to_bits binary64 y.0)) y.1 × (is_zero y.0 ≡ false) × T (fits binary64 y.0) × (bad_field i y.0 ≡ false)
unfolding field_at number_of_field
field_takes i bs y b e =
    let word = given (number_at w64 bs) (λ w. number_of_field i w.0 >>= λ x. Ok (x, w.1)) y e in
    let n = word.value.0 in
    let rest = word.value.1 in
    let t = word_takes bs n rest b word.is in
    let number = given (number_of_field i n) (λ x. Ok (x, rest)) y word.gives in
    let x = number.value in
    let z = passed_by (eqb n 0) RecordMap (cond (bad_field i (of_bits binary64 n)) (Err BadNumber) (Ok (of_bits binary64 n))) x number.is in
    let g = passed_by (bad_field i (of_bits binary64 n)) BadNumber (Ok (of_bits binary64 n)) x z.1 in
    let is : of_bits binary64 n ≡ x = ok_is (of_bits binary64 n) x g.1 in
    let bits : to_bits binary64 (of_bits binary64 n) ≡ n = to_bits-of_bits binary64 n t.1 (good_number i (of_bits binary64 n) g.0) in
    let same : to_bits binary64 x ≡ n = ap (λ (v : Float). to_bits binary64 v) (sym is) ∙ bits in
    subst (λ (p : Float × List ℕ). Takes bs (word_bytes (to_bits binary64 p.0)) p.1 × (is_zero p.0 ≡ false) × T (fits binary64 p.0) × (bad_field i p.0 ≡ false)) (ok_is (x, rest) y number.gives)
    (rw same t.0, nonzero x n same z.0, subst (λ (v : Float). T (fits binary64 v)) is (of_bits-fits binary64 n), subst (λ (v : Float). bad_field i v ≡ false) is g.0)

-- ---- the numbers of a circle

f0_is_zero : is_zero f0 ≡ true
unfolding is_zero of_bits to_bits
f0_is_zero = refl

f0_fits : T (fits binary64 f0)
f0_fits = of_bits-fits binary64 0

f0_good : (i : ℕ) → bad_field i f0 ≡ false
unfolding of_bits lt
f0_good i = go (is_length i)
  where
    go : (b : Bool) → cond b (bad_length f0) (not (finite f0)) ≡ false
    go true = refl
    go false = refl

-- what is known of n numbers that were read, from place i on
pub record Numbers (n i map : ℕ) (bs : List ℕ) (y : List Float × List ℕ) : Type 0 where
  pub takes : Takes bs (fields_of y.0) y.1
  pub map_is : map_of y.0 ≡ map
  pub count : length y.0 ≡ n
  pub good : Good i y.0

half_below : (map p : ℕ) → map < p * 2 → map / 2 < p
half_below map p h = omega (arith, h)

even_half : (map : ℕ) → map % 2 ≡ 0 → 0 + 2 * (map / 2) ≡ map
even_half map h = omega (arith, h)

odd_half : (map : ℕ) → (map % 2 ≡ 0 → ⊥) → 1 + 2 * (map / 2) ≡ map
odd_half map h = omega (arith, h)

-- one number, with its bit, before the others
number_first : (n i map : ℕ) (bs : List ℕ) (x : Float × List ℕ) (xs : List Float × List ℕ) → IsBytes bs → number_from i map bs ≡ Ok x → (IsBytes x.1 → Numbers n (suc i) (map / 2) x.1 xs) → Numbers (suc n) i map bs (x.0 ∷ xs.0, xs.1)
unfolding number_from fields_of map_of
number_first n i map bs x xs b e others = go (eqb (map % 2) 0) refl e
  where
    clear : (x.0 ≡ f0) → (x.1 ≡ bs) → map % 2 ≡ 0 → Numbers (suc n) i map bs (x.0 ∷ xs.0, xs.1)
    clear p q h =
        let k = others (rw q b) in
        let z : is_zero x.0 ≡ true = rw p f0_is_zero in
        record {
          takes = rw z (rw q at k.takes);
          map_is = rw (z, k.map_is) (even_half map h);
          count = ap suc k.count;
          good = (rw p f0_fits, rw p (f0_good i), k.good);
        }

    set : field_at i bs ≡ Ok x → (map % 2 ≡ 0 → ⊥) → Numbers (suc n) i map bs (x.0 ∷ xs.0, xs.1)
    set f h =
        let t = field_takes i bs x b f in
        let k = others t.0.rest_fits in
        record {
          takes = rw t.1 (takes-then bs (word_bytes (to_bits binary64 x.0)) x.1 (fields_of xs.0) xs.1 t.0 k.takes);
          map_is = rw (t.1, k.map_is) (odd_half map h);
          count = ap suc k.count;
          good = (t.2, t.3, k.good);
        }

    go : (c : Bool) → eqb (map % 2) 0 ≡ c → cond (eqb (map % 2) 0) (Ok (f0, bs)) (field_at i bs) ≡ Ok x → Numbers (suc n) i map bs (x.0 ∷ xs.0, xs.1)
    go true q f =
        let is : (f0, bs) ≡ x = ok_is (f0, bs) x (rw q at f) in
        clear (sym (ap (λ (p : Float × List ℕ). p.0) is)) (sym (ap (λ (p : Float × List ℕ). p.1) is)) (eqb-true (map % 2) 0 q)
    go false q f = set (rw q at f) (eqb-false (map % 2) 0 q)

numbers_take : (n i map : ℕ) (bs : List ℕ) (y : List Float × List ℕ) → IsBytes bs → map < 2 ^ n → numbers_at n i map bs ≡ Ok y → Numbers n i map bs y
unfolding numbers_at fields_of map_of
numbers_take zero i map bs y b h e =
    let z : 0 ≡ map = omega (arith, h) in
    subst (λ (p : List Float × List ℕ). Numbers 0 i map bs p) (ok_is ([], bs) y e) (record { takes = record { parts = refl; rest_fits = b }; map_is = z; count = refl; good = tt })
numbers_take (suc n) i map bs y b h e =
    let one = given (number_from i map bs) (λ x. numbers_at n (suc i) (map / 2) x.1 >>= λ xs. Ok (x.0 ∷ xs.0, xs.1)) y e in
    let x = one.value in
    let others = given (numbers_at n (suc i) (map / 2) x.1) (λ xs. Ok (x.0 ∷ xs.0, xs.1)) y one.gives in
    let xs = others.value in
    let low = half_below map (2 ^ n) (rw (pow-suc 2 n) at h) in
    subst (λ (p : List Float × List ℕ). Numbers (suc n) i map bs p) (ok_is (x.0 ∷ xs.0, xs.1) y others.gives)
    (number_first n i map bs x xs b one.is (λ bx. numbers_take n (suc i) (map / 2) x.1 xs bx low others.is))

-- ---- a circle

-- the numbers of the circle that nine numbers make
numbers_nine : (xs : List Float) → length xs ≡ width → numbers_of (circle_from xs 0) ≡ xs
unfolding numbers_of circle_from
numbers_nine (a ∷ b ∷ c ∷ d ∷ e ∷ f ∷ g ∷ h ∷ i ∷ []) l = refl
numbers_nine xs l = absurd (omega (arith, l))

-- what is known of a circle that was read
pub record Circle (bs : List ℕ) (y : Inscribed × List ℕ) : Type 0 where
  pub takes : Takes bs (circle_record y.0) y.1
  pub good : bad_circle y.0 ≡ false
  pub fits : Fits y.0

all_good : (a b c d e f r l m : Bool) → not a ≡ false → not b ≡ false → r ≡ false → not c ≡ false → not d ≡ false → not e ≡ false → not f ≡ false → l ≡ false → m ≡ false
    → (not ((a && b) && ((c && d) && (e && f))) || (r || (l || m))) ≡ false
all_good a b c d e f r l m ha hb hr hc hd he hf hl hm = rw (not-false a ha, not-false b hb, not-false c hc, not-false d hd, not-false e he, not-false f hf, hr, hl, hm) refl

good_made : (c : Inscribed) → Good 0 (numbers_of c) → bad_circle c ≡ false
unfolding bad_circle numbers_of
good_made c g =
    all_good (finite c.cx) (finite c.cy) (finite c.p0x) (finite c.p0y) (finite c.p1x) (finite c.p1y) (bad_length c.r) (bad_length c.l0) (bad_length c.l1)
    g.1 g.2.1 g.2.2.1 g.2.2.2.1 g.2.2.2.2.1 g.2.2.2.2.2.1 g.2.2.2.2.2.2.1 g.2.2.2.2.2.2.2.1 g.2.2.2.2.2.2.2.2.1

-- nine of them fit, and so does what stands for one behind the last
fits_each : (i : ℕ) (xs : List Float) → Good i xs → (k : ℕ) → T (fits binary64 (get_or xs k nan))
unfolding fits
fits_each i [] g k = tt
fits_each i (x ∷ xs) g zero = g.0
fits_each i (x ∷ xs) g (suc k) = fits_each (suc i) xs g.2 k

circle_made : (bs : List ℕ) (map : ℕ × List ℕ) (xs : List Float × List ℕ) → Takes bs (short_bytes map.0) map.1 → Numbers width 0 map.0 map.1 xs → Circle bs (circle_from xs.0 0, xs.1)
unfolding circle_record
circle_made bs map xs t n =
    let nine = numbers_nine xs.0 n.count in
    record {
      takes = rw (nine, n.map_is) (takes-then bs (short_bytes map.0) map.1 (fields_of xs.0) xs.1 t n.takes);
      good = good_made (circle_from xs.0 0) (rw nine n.good);
      fits = λ k. rw nine (fits_each 0 xs.0 n.good k);
    }

circle_is : (bs : List ℕ) (x y : Inscribed × List ℕ) → x ≡ y → Circle bs x → Circle bs y
circle_is bs x y e c = subst (λ (p : Inscribed × List ℕ). Circle bs p) e c

circle_takes : (bs : List ℕ) (y : Inscribed × List ℕ) → IsBytes bs → circle_read bs ≡ Ok y → Circle bs y
unfolding circle_read
circle_takes bs y b e =
    let first = given (number_at w16 bs) (λ map. cond (ltb most_map map.0) (Err RecordMap) (numbers_at width 0 map.0 map.1 >>= λ xs. Ok (circle_from xs.0 0, xs.1))) y e in
    let map = first.value in
    let t = short_takes bs map.0 map.1 b first.is in
    let small = passed_by (ltb most_map map.0) RecordMap (numbers_at width 0 map.0 map.1 >>= λ xs. Ok (circle_from xs.0 0, xs.1)) y first.gives in
    let numbers = given (numbers_at width 0 map.0 map.1) (λ xs. Ok (circle_from xs.0 0, xs.1)) y small.1 in
    let xs = numbers.value in
    let n = numbers_take width 0 map.0 map.1 xs t.rest_fits (omega (arith, ltb-false most_map map.0 small.0)) numbers.is in
    circle_is bs (circle_from xs.0 0, xs.1) y (ok_is (circle_from xs.0 0, xs.1) y numbers.gives) (circle_made bs map xs t n)

-- ---- all circles

pub record Circles (n : ℕ) (bs : List ℕ) (y : List Inscribed × List ℕ) : Type 0 where
  pub takes : Takes bs (circles_record y.0) y.1
  pub count : length y.0 ≡ n
  pub good : any_bad y.0 ≡ false
  pub fits : AllFit y.0

circle_first : (n : ℕ) (bs : List ℕ) (c : Inscribed × List ℕ) (cs : List Inscribed × List ℕ) → Circle bs c → Circles n c.1 cs → Circles (suc n) bs (c.0 ∷ cs.0, cs.1)
unfolding circles_record any_bad
circle_first n bs c cs one others =
    record {
      takes = takes-then bs (circle_record c.0) c.1 (circles_record cs.0) cs.1 one.takes others.takes;
      count = ap suc others.count;
      good = rw (one.good, others.good) refl;
      fits = more one.fits others.fits;
    }

circles_take : (n : ℕ) (bs : List ℕ) (y : List Inscribed × List ℕ) → IsBytes bs → circles_read n bs ≡ Ok y → Circles n bs y
unfolding circles_read circles_record any_bad
circles_take zero bs y b e = subst (λ (p : List Inscribed × List ℕ). Circles 0 bs p) (ok_is ([], bs) y e) (record { takes = record { parts = refl; rest_fits = b }; count = refl; good = refl; fits = none })
circles_take (suc n) bs y b e =
    let first = given (circle_read bs) (λ c. circles_read n c.1 >>= λ cs. Ok (c.0 ∷ cs.0, cs.1)) y e in
    let c = first.value in
    let others = given (circles_read n c.1) (λ cs. Ok (c.0 ∷ cs.0, cs.1)) y first.gives in
    let cs = others.value in
    let one = circle_takes bs c b first.is in
    subst (λ (p : List Inscribed × List ℕ). Circles (suc n) bs p) (ok_is (c.0 ∷ cs.0, cs.1) y others.gives)
    (circle_first n bs c cs one (circles_take n c.1 cs one.takes.rest_fits others.is))

-- ---- the record

-- what is known of the circles of an accepted string
pub record Accepted (bs : List ℕ) (most : ℕ) (cs : List Inscribed) : Type 0 where
  pub string : record_of cs ≡ bs
  pub few : length cs ≤ most
  pub good : any_bad cs ≡ false
  pub fits : AllFit cs

accepted_made : (bs : List ℕ) (most : ℕ) (n : ℕ × List ℕ) (x : List Inscribed × List ℕ) → Takes bs (short_bytes n.0) n.1 → n.0 ≤ most → Circles n.0 n.1 x → x.1 ≡ [] → Accepted bs most x.0
unfolding record_of
accepted_made bs most n x t few k ended =
    let all : circles_record x.0 ≡ n.1 = sym (append-nil (circles_record x.0)) ∙ ap (λ (r : List ℕ). circles_record x.0 ++ r) (sym ended) ∙ k.takes.parts in
    record { string = rw (k.count, all) t.parts; few = omega (arith, few, k.count); good = k.good; fits = k.fits }

pub accepted : (bs : List ℕ) (most : ℕ) (cs : List Inscribed) → IsBytes bs → read_record bs most ≡ Ok cs → Accepted bs most cs
unfolding read_record counted_read
accepted bs most cs b e =
    let counted = given (counted_read bs most) all_read cs e in
    let x = counted.value in
    let count = given (number_at w16 bs) (λ n. cond (ltb most n.0) (Err NoRoom) (circles_read n.0 n.1)) x counted.is in
    let n = count.value in
    let t = short_takes bs n.0 n.1 b count.is in
    let g = passed_by (ltb most n.0) NoRoom (circles_read n.0 n.1) x count.gives in
    let h = passed_on (eqb (length x.1) 0) RecordLength (Ok x.0) cs counted.gives in
    subst (λ (p : List Inscribed). Accepted bs most p) (ok_is x.0 cs h.1)
    (accepted_made bs most n x t (ltb-false most n.0 g.0) (circles_take n.0 n.1 x t.rest_fits g.1) (nil_from_length x.1 (eqb-true (length x.1) 0 h.0)))
