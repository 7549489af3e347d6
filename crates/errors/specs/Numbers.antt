-- The sign bit of a number. Assumes nothing.
use Rattle.std.specs.Prelude.{Bool, true, not, Float}
use Rattle.std.specs.Float.{nan, inf, fin}

-- the sign bit is clear
abbrev pub is_plus : Float → Bool
is_plus nan = true
is_plus (inf s) = not s
is_plus (fin s m e) = not s
