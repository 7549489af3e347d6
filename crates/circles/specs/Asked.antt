-- Each call: "entry tests in number order", then its step. Assumes nothing.
use Rattle.std.specs.Prelude.{Bool, false, not, ◌||◌, List, Float, Option, Ok}
use Rattle.errors.specs.Answer.{Answer, ◌>>=◌}
use Rattle.line2.specs.declared.Line2.{Line2}
use Rattle.curve2.specs.Entry.{bad_general, section_entry}
use Rattle.line2.specs.Lines.{finite_line}
use Rattle.inscribed.specs.Store.{bad_circle}
use Rattle.inscribed.specs.declared.Inscribed.{Inscribed}
use Rattle.queries.specs.Crossing.{crossing_on}
use Rattle.halving.specs.Halving.{from_line, from_crossing}
use Rattle.circles.specs.Trial.{trial}
use Rattle.circles.specs.declared.CircleOnLine.{CircleOnLine}

-- with whether a number of the other arguments is bad, and whether the general tolerance is finer than the section's (23): one circle or one trial isn't held to that
unfoldable pub circle_entry : List Float → Float → Float → Bool → Bool → Answer (Unit {0})
circle_entry ns section_tol tol bad finer = section_entry ns section_tol (record { number = bad; tolerance = bad_general tol; finer = finer; room = false; state = false })

-- of a line handed in
abbrev pub line_entry : List Float → Float → Float → Line2 → Bool → Answer (Unit {0})
line_entry ns section_tol tol l finer = circle_entry ns section_tol tol (not (finite_line l)) finer

-- `inscribed_from_crossing`: the line is taken as a crossing, whose edges nobody has told
unfoldable pub from_crossing_asked : List Float → Float → Float → Line2 → Answer Inscribed
from_crossing_asked ns section_tol tol l = line_entry ns section_tol tol l false >>= λ passed. from_line ns tol l

-- `try_inscribed`. 02 (a): "The circle worked out from a crossing asked for directly hands them on"
unfoldable pub try_asked : List Float → Float → Float → Line2 → Answer CircleOnLine
try_asked ns section_tol tol l =
    line_entry ns section_tol tol l false >>= λ passed.
    crossing_on ns l >>= λ x.
    from_crossing ns tol x >>= λ c.
    Ok (record { circle = c; edges = x.edges })

-- `inscribed_refined` of a, the earlier, and b
unfoldable pub trial_asked : List Float → Float → Float → Inscribed → Inscribed → Answer (Option Inscribed)
trial_asked ns section_tol tol a b = circle_entry ns section_tol tol (bad_circle a || bad_circle b) false >>= λ passed. trial ns tol a b
