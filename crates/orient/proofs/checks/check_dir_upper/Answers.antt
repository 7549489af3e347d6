use mathlib.Core.Path.{◌∙◌}
use Rattle.std.proofs.Common.{rules}
use Rattle.inscribed.specs.Store.{circle_at}
use Rattle.orient.specs.Orientation.{vote_of, dir_upper}
use Rattle.orient.proofs.Votes.{majority_of_circles}
use Rattle.orient.proofs.checks.check_dir_upper.Goals as goal

pub returns : goal.returns
unfolding dir_upper
returns c =
    let ns = c.args.circles.now.store.now in
    c.is_majority.ensures (λ k. vote_of c.args.dir (circle_at ns k)) (λ k r h p. search rules) ∙ majority_of_circles (vote_of c.args.dir) ns c.args.circles.now.count
