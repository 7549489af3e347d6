-- What a call's `ensures` and the test of its result say together, steps in a row, and two numbers that no refusal has. Assumes nothing.
use mathlib.Core.Path.{◌≡◌, refl, sym, ◌∙◌}
use mathlib.Core.Bool.{Bool, true, false, cond}
use native.Mathlib.Omega.{arith}
use Rattle.std.specs.Prelude.{Ok, Err, IsErrAnd}
use Rattle.errors.specs.Answer.{Answer, ◌>>=◌, number_of}
use Rattle.errors.specs.declared.Refusal.{Refusal}
use Rattle.errors.specs.declared.Refusal.TheVariants.{PointCount, BadNumber, Tolerance, NoRoom, TooFewKept, NotSpaced, TooFewCircles, NoCrossing, OffCurve, TooLong, ZeroLength, NotFinite, NoAdvance, StoreFull, StackFull, ClosedSection, GapBehind, GapParallel, GapMissed, EmptyStretch, WrongKind, FinerThanSection, RecordLength, RecordMap, ByteCount, BadState}

-- r is what the call gives, d what its definition says, t how the test went
pub told : {A : Type 0} {r d t : A} → r ≡ d → r ≡ t → d ≡ t
told p q = sym p ∙ q

-- r is what a `?` returns, e the refusal that it found
pub handed_on : {A : Type 0} (r : Answer A) (e : Refusal) → IsErrAnd r (λ x. x ≡ e) → r ≡ Err e
handed_on (Ok a) e p = absurd p
handed_on (Err x) e p = rw p

-- steps in a row, grouped either way
pub bind_assoc : {A B C : Type 0} (a : Answer A) (f : A → Answer B) (g : B → Answer C) → ((a >>= f) >>= g) ≡ (a >>= λ x. f x >>= g)
bind_assoc (Ok x) f g = refl
bind_assoc (Err n) f g = refl

-- a step that passed, and so did those behind it: its value
pub record Given {A B : Type 0} (a : Answer A) (f : A → Answer B) (b : B) : Type 0 where
  pub value : A
  pub is : a ≡ Ok value
  pub gives : f value ≡ Ok b

pub given : {A B : Type 0} (a : Answer A) (f : A → Answer B) (b : B) → (a >>= f) ≡ Ok b → Given a f b
given (Ok x) f b e = record { value = x; is = refl; gives = e }
given (Err n) f b e = absurd cc

-- a test that refused nothing, where true is refused, and where false is
pub passed_by : {A : Type 0} (t : Bool) (n : Refusal) (a : Answer A) (b : A) → cond t (Err n) a ≡ Ok b → (t ≡ false) × (a ≡ Ok b)
passed_by true n a b e = absurd cc
passed_by false n a b e = (refl, e)

pub passed_on : {A : Type 0} (t : Bool) (n : Refusal) (a : Answer A) (b : A) → cond t a (Err n) ≡ Ok b → (t ≡ true) × (a ≡ Ok b)
passed_on true n a b e = (refl, e)
passed_on false n a b e = absurd cc

abbrev done : {A : Type 0} → A → Answer A
done x = Ok x

pub ok_is : {A : Type 0} (x y : A) → done x ≡ done y → x ≡ y
ok_is x y e = cc

-- ---- no refusal has the number of a result, nor that of a spent run

pub not_0 : (r : Refusal) → number_of r ≡ 0 → ⊥
not_0 PointCount p = omega (arith, p)
not_0 BadNumber p = omega (arith, p)
not_0 Tolerance p = omega (arith, p)
not_0 NoRoom p = omega (arith, p)
not_0 TooFewKept p = omega (arith, p)
not_0 NotSpaced p = omega (arith, p)
not_0 TooFewCircles p = omega (arith, p)
not_0 NoCrossing p = omega (arith, p)
not_0 OffCurve p = omega (arith, p)
not_0 TooLong p = omega (arith, p)
not_0 ZeroLength p = omega (arith, p)
not_0 NotFinite p = omega (arith, p)
not_0 NoAdvance p = omega (arith, p)
not_0 StoreFull p = omega (arith, p)
not_0 StackFull p = omega (arith, p)
not_0 ClosedSection p = omega (arith, p)
not_0 GapBehind p = omega (arith, p)
not_0 GapParallel p = omega (arith, p)
not_0 GapMissed p = omega (arith, p)
not_0 EmptyStretch p = omega (arith, p)
not_0 WrongKind p = omega (arith, p)
not_0 FinerThanSection p = omega (arith, p)
not_0 RecordLength p = omega (arith, p)
not_0 RecordMap p = omega (arith, p)
not_0 ByteCount p = omega (arith, p)
not_0 BadState p = omega (arith, p)

pub not_14 : (r : Refusal) → number_of r ≡ 14 → ⊥
not_14 PointCount p = omega (arith, p)
not_14 BadNumber p = omega (arith, p)
not_14 Tolerance p = omega (arith, p)
not_14 NoRoom p = omega (arith, p)
not_14 TooFewKept p = omega (arith, p)
not_14 NotSpaced p = omega (arith, p)
not_14 TooFewCircles p = omega (arith, p)
not_14 NoCrossing p = omega (arith, p)
not_14 OffCurve p = omega (arith, p)
not_14 TooLong p = omega (arith, p)
not_14 ZeroLength p = omega (arith, p)
not_14 NotFinite p = omega (arith, p)
not_14 NoAdvance p = omega (arith, p)
not_14 StoreFull p = omega (arith, p)
not_14 StackFull p = omega (arith, p)
not_14 ClosedSection p = omega (arith, p)
not_14 GapBehind p = omega (arith, p)
not_14 GapParallel p = omega (arith, p)
not_14 GapMissed p = omega (arith, p)
not_14 EmptyStretch p = omega (arith, p)
not_14 WrongKind p = omega (arith, p)
not_14 FinerThanSection p = omega (arith, p)
not_14 RecordLength p = omega (arith, p)
not_14 RecordMap p = omega (arith, p)
not_14 ByteCount p = omega (arith, p)
not_14 BadState p = omega (arith, p)
