use mathlib.Core.Path.{◌∙◌}
use Rattle.std.proofs.Common.{rules}
use Rattle.inscribed.specs.Store.{circle_at}
use Rattle.orient.specs.Curvature.{side_vote, curvature_on}
use Rattle.orient.proofs.Votes.{majority_of_circles}
use Rattle.orient.proofs.curvature.check_curvature.Goals as goal

pub returns : goal.returns
unfolding curvature_on
returns c =
    let ns = c.args.circles.now.store.now in
    let vote = side_vote c.args.curve.now.points.now c.in_ok-right.right in
    rw (← c.in_ok-right.ensures)
    (c.is_majority.ensures (λ k. vote (circle_at ns k)) (λ k r h p. search rules) ∙ majority_of_circles vote ns c.args.circles.now.count)
