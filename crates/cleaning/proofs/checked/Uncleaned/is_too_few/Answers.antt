-- `is_too_few` asks the points behind the first. Assumes nothing.
use Rattle.std.proofs.Common.{◌∙◌, ◌+◌, ◌*◌, ◌/◌, ◌-◌, ◌≡◌, length, refl, rules, tests, arith}
use Rattle.std.proofs.lemmas.Iterator.{YieldsList-from_range}
use Rattle.std.proofs.lemmas.Iterator.Search.{all_from_yields_List}
use Rattle.std.specs.Float.Ieee.{le}
use Rattle.curve2.specs.Section.{plain_dist, point_at}
use Rattle.cleaning.proofs.Made.{too_few_points}
use Rattle.cleaning.proofs.checked.Uncleaned.is_too_few.Goals as goal

pub returns : goal.returns
returns c =
    let ns = c.args.self.now.points.now in
    let n = length ns / 2 - 1 in
    let whole : length ns ≡ 2 * (1 + n) = omega (arith, c.args.self.now.even, c.args.self.now.least) in
    all_from_yields_List (λ i. le (plain_dist (point_at ns (2 * i)) c.vertex_at-first.result) c.args.self.now.tol) _ _ _ c.all.ensures.ran (YieldsList-from_range 1 (length ns / 2) n refl (omega (arith, whole))) (λ x b q k. search (rules, tests))
    ∙ too_few_points c.args.self.now.tol ns c.vertex_at-first.result n c.vertex_at-first.ensures whole
