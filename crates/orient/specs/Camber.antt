-- The camber curve that an orientation builds: `camber_curve(average_spacing * 5e-2)`. Assumes nothing.
use Rattle.std.specs.Prelude.{false, List, map, Float, Ok, Err}
use Rattle.std.specs.Float.Ieee.{of_bits}
use Rattle.std.specs.Float.{binary64}
use Rattle.errors.specs.Answer.{Answer, ◌>>=◌}
use Rattle.points.specs.Numbers.{◌*f◌}
use Rattle.curve2.specs.declared.checked.Curve2.{Curve2}
use Rattle.cleaning.specs.Cleaning.{point_numbers, curve_of}
use Rattle.inscribed.specs.Circles.{center}
use Rattle.inscribed.specs.Lists.{average_spacing}
use Rattle.inscribed.specs.declared.Inscribed.{Inscribed}

-- 5e-2
abbrev pub spacing_part : Float
spacing_part = of_bits binary64 0x3fa9_9999_9999_999a

-- its numbers and its tolerance
pub record Camber : Type 0 where
  pub numbers : List Float
  pub tolerance : Float

abbrev pub camber : List Float → Float → Camber
camber ns tol = record { numbers = ns; tolerance = tol }

-- of a curve that is lent on
abbrev pub camber_lent : Answer Curve2 → Answer Camber
camber_lent (Ok c) = Ok (camber c.points.now c.tol)
camber_lent (Err r) = Err r

-- of a tolerance: 5 where that leaves fewer than two points
unfoldable pub camber_with : List Inscribed → Float → Answer Camber
camber_with cs tol = curve_of tol false (map center cs) >>= λ curve. Ok (record { numbers = point_numbers curve; tolerance = tol })

-- the tolerance is a part of the average spacing
unfoldable pub camber_of : List Inscribed → Answer Camber
camber_of cs = average_spacing cs >>= λ spacing. camber_with cs (spacing *f spacing_part)
