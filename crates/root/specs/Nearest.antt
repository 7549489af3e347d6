-- What it means that r is the correctly rounded root of x, a finite value above zero: r is nearer to √x than any other value of binary64 is, of either sign.
-- It is said over whole numbers: in units of 2 ^ -1074, √x lies strictly on r's side of the middle of r and the other value. Assumes nothing.
use Rattle.std.specs.Prelude.{◌≡◌, ℕ, ◌+◌, ◌-◌, ◌*◌, ◌^◌, ◌<◌, true, false, T, Float}
use Rattle.std.specs.Float.{nan, inf, fin, binary64}
use Rattle.std.specs.Float.Ieee.{low, fits}
use Rattle.std.specs.Float.Ieee.Scale.{finite}
use Rattle.errors.specs.Numbers.{is_plus}
use Rattle.root.specs.Sqrt.{in_units}

-- a finite value's magnitude in units
abbrev pub magnitude : Float → ℕ
magnitude nan = 0
magnitude (inf s) = 0
magnitude (fin s m e) = in_units m e

-- (√x in units) squared
abbrev pub square : Float → ℕ
square x = magnitude x * 2 ^ low binary64

-- r and y are R and Y units above zero: their middle is (R + Y) / 2, and √N lies on R's side of it
abbrev pub SidePlus : ℕ → ℕ → ℕ → Type 0
SidePlus N R Y = (R < Y → 4 * N < (R + Y) * (R + Y)) × (Y < R → (R + Y) * (R + Y) < 4 * N)

-- y is Y units below zero: the middle is (R - Y) / 2, below √N. (Where Y is larger than R the middle is below zero, and R - Y is 0 here.)
abbrev pub SideMinus : ℕ → ℕ → ℕ → Type 0
SideMinus N R Y = (R - Y) * (R - Y) < 4 * N

abbrev pub Nearer : ℕ → ℕ → Float → Type 0
Nearer N R nan = Unit {0}
Nearer N R (inf s) = Unit {0}
Nearer N R (fin false m e) = SidePlus N R (in_units m e)
Nearer N R (fin true m e) = SideMinus N R (in_units m e)

pub record IsNearestRoot (x r : Float) : Type 0 where
  pub value : T (fits binary64 r)
  pub is_finite : finite r ≡ true
  pub plus : is_plus r ≡ true
  pub nearer : (y : Float) → T (fits binary64 y) → Nearer (square x) (magnitude r) y
