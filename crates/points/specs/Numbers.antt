-- binary64 arithmetic in short, and the constants of the steps. "Each operation rounds once." Assumes nothing.
use Rattle.std.specs.Prelude.{Bool, ◌&&◌, Float}
use Rattle.std.specs.Float.{binary64}
use Rattle.std.specs.Float.Ieee.{add, sub, mul, div, neg, lt, of_bits}

infixl 65 ◌+f◌ ◌-f◌
infixl 70 ◌*f◌ ◌/f◌
abbrev pub ◌+f◌ : Float → Float → Float
a +f b = add binary64 a b

abbrev pub ◌-f◌ : Float → Float → Float
a -f b = sub binary64 a b

abbrev pub ◌*f◌ : Float → Float → Float
a *f b = mul binary64 a b

abbrev pub ◌/f◌ : Float → Float → Float
a /f b = div binary64 a b

abbrev pub f0 : Float
f0 = of_bits binary64 0x0000_0000_0000_0000

abbrev pub f½ : Float
f½ = of_bits binary64 0x3fe0_0000_0000_0000

abbrev pub f1 : Float
f1 = of_bits binary64 0x3ff0_0000_0000_0000

-- 1e-12
abbrev pub tiny : Float
tiny = of_bits binary64 0x3d71_9799_812d_ea11

-- x is below the bound in size
abbrev pub is_within : Float → Float → Bool
is_within bound x = lt (neg bound) x && lt x bound
