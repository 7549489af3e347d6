-- Leaf rule "Nearest point", for one edge: s = (p - v0)·d / d·d with d = v1 - v0. Assumes nothing.
use Rattle.std.specs.Prelude.{cond, Float, Ok, Err}
use Rattle.std.specs.Float.Ieee.{le}
use Rattle.errors.specs.Answer.{Answer, watched, ◌>>=◌}
use Rattle.points.specs.Numbers.{◌/f◌, f0, f1}
use Rattle.points.specs.Points.{watched_point, minus, moved, dot_of}
use Rattle.points.specs.declared.Point2.{Point2}
use Rattle.points.specs.declared.segment2.EdgePoint.{EdgePoint}

-- s, watched as every fraction of an edge
unfoldable pub fraction_on : Point2 → Point2 → Point2 → Answer Float
fraction_on p a b =
    dot_of (minus p a) (minus b a) >>= λ along.
    dot_of (minus b a) (minus b a) >>= λ whole.
    watched (along /f whole)

-- "v0 if s is at most 0, v1 if at least 1, else v0 + d × s"
unfoldable pub held_point : Point2 → Point2 → Float → Answer Point2
held_point a b s = cond (le s f0) (Ok a) (cond (le f1 s) (Ok b) (watched_point (moved a (minus b a) s)))

-- "s held to 0 to 1"
abbrev pub held : Float → Float
held s = cond (le s f0) f0 (cond (le f1 s) f1 s)

-- q at a fraction, with its squared distance
unfoldable pub measured_to : Point2 → Point2 → Float → Answer EdgePoint
measured_to p q s = dot_of (minus p q) (minus p q) >>= λ square. Ok (record { point = q; fraction = s; square = square })

unfoldable pub closest_on_edge : Point2 → Point2 → Point2 → Answer EdgePoint
closest_on_edge p a b =
    fraction_on p a b >>= λ s.
    held_point a b s >>= λ q.
    measured_to p q (held s)
