-- `intersection_param`: where a line meets the line of an edge. Assumes nothing.
use Rattle.std.specs.Prelude.{cond, Float, Option, Some, None, Ok}
use Rattle.errors.specs.Answer.{Answer, watched, ◌>>=◌}
use Rattle.points.specs.Numbers.{◌-f◌, ◌*f◌, ◌/f◌, tiny, is_within}
use Rattle.points.specs.Points.{minus}
use Rattle.points.specs.declared.Vector2.{Vector2}
use Rattle.line2.specs.declared.Line2.{Line2}
use Rattle.line2.specs.declared.LineParams.{LineParams}

-- Cramer's rule for a line (o, d) and an edge's line (v, e), with w = v - o

abbrev pub cross : Vector2 → Vector2 → Float
cross a b = a.x *f b.y -f a.y *f b.x

-- e.x × d.y - e.y × d.x
abbrev pub determinant : Line2 → Line2 → Float
determinant l k = cross k.direction l.direction

-- along the line: (w.y × e.x - w.x × e.y) / det
abbrev pub line_fraction : Line2 → Line2 → Float
line_fraction l k =
    let w = minus k.origin l.origin in
    let e = k.direction in
    (w.y *f e.x -f w.x *f e.y) /f determinant l k

-- along the edge: (w.y × d.x - w.x × d.y) / det
abbrev pub edge_fraction : Line2 → Line2 → Float
edge_fraction l k =
    let w = minus k.origin l.origin in
    let d = l.direction in
    (w.y *f d.x -f w.x *f d.y) /f determinant l k

-- "determinant below 1e-12 in size is no hit". The determinant is watched before that, both fractions after it.
unfoldable pub intersection_param : Line2 → Line2 → Answer (Option LineParams)
intersection_param l k =
    watched (determinant l k) >>= λ det.
    cond (is_within tiny det) (Ok None)
    (watched (line_fraction l k) >>= λ t.
    watched (edge_fraction l k) >>= λ s.
    Ok (Some (record { t = t; s = s })))
