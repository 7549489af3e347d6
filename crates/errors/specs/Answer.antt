-- The answer of a step: `Ok` of its result, or `Err` of a refusal, each with document 01's or 02's number. Steps are joined by `◌>>=◌`: the first refusal is the answer of the whole.
-- Assumes nothing.
use Rattle.std.specs.Prelude.{ℕ, Bool, cond, Float, Result, Ok, Err}
use Rattle.std.specs.Float.Ieee.Scale.{finite}
use Rattle.errors.specs.declared.Refusal.{Refusal}
use Rattle.errors.specs.declared.Refusal.TheVariants.{PointCount, BadNumber, Tolerance, NoRoom, TooFewKept, NotSpaced, TooFewCircles, NoCrossing, OffCurve, TooLong, ZeroLength, NotFinite, NoAdvance, StoreFull, StackFull, ClosedSection, GapBehind, GapParallel, GapMissed, EmptyStretch, WrongKind, FinerThanSection, RecordLength, RecordMap, ByteCount, BadState}

abbrev pub Answer : Type 0 → Type 0
Answer A = Result A Refusal

infixl 10 ◌>>=◌
abbrev pub ◌>>=◌ : {A B : Type 0} → Answer A → (A → Answer B) → Answer B
Ok a >>= f = f a
Err r >>= f = Err r

-- whether a step passed, whatever its result
abbrev pub passed : {A : Type 0} → Answer A → Answer (Unit {0})
passed (Ok a) = Ok tt
passed (Err r) = Err r

-- 12: "a watched value is infinite or NaN"; f tells whether none of its numbers is
abbrev pub watched_as : {A : Type 0} → (A → Bool) → A → Answer A
watched_as f x = cond (f x) (Ok x) (Err NotFinite)

abbrev pub watched : Float → Answer Float
watched x = watched_as finite x

-- ---- the numbers

-- The table of endings. 14, "spent", is the ending of a run and of no step: no refusal has that number.
abbrev pub number_of : Refusal → ℕ
number_of PointCount = 1
number_of BadNumber = 2
number_of Tolerance = 3
number_of NoRoom = 4
number_of TooFewKept = 5
number_of NotSpaced = 6
number_of TooFewCircles = 7
number_of NoCrossing = 8
number_of OffCurve = 9
number_of TooLong = 10
number_of ZeroLength = 11
number_of NotFinite = 12
number_of NoAdvance = 13
number_of StoreFull = 15
number_of StackFull = 16
number_of ClosedSection = 17
number_of GapBehind = 18
number_of GapParallel = 19
number_of GapMissed = 20
number_of EmptyStretch = 21
number_of WrongKind = 22
number_of FinerThanSection = 23
number_of RecordLength = 24
number_of RecordMap = 25
number_of ByteCount = 26
number_of BadState = 27

-- the number of an answer: 0 for a result
abbrev pub number : {A : Type 0} → Answer A → ℕ
number (Ok a) = 0
number (Err r) = number_of r
