-- A section lent on after its tests. Assumes nothing.
use Rattle.std.specs.Prelude.{◌≡◌, List, Float, IfOk}
use Rattle.errors.specs.Answer.{Answer}
use Rattle.curve2.specs.declared.checked.Curve2.{Curve2}

-- What passed has these numbers and this tolerance.
abbrev pub IsLent : List Float → Float → Answer Curve2 → Type 0
IsLent ns tol answer = IfOk answer (λ s. (s.points.now ≡ ns) × (s.tol ≡ tol))
