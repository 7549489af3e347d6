use mathlib.Core.Path.{◌∙◌}
use lib.ListN.{get_or}
use lib.Ieee.{nan}
use Rattle.std.proofs.Common.{rules}
use Rattle.curve2.specs.Section.{point}
use Rattle.orient.specs.Curvature.{is_right}
use Rattle.orient.proofs.Votes.{majority_of_items}
use Rattle.orient.proofs.curvature.are_most_right.Goals as goal

pub returns : goal.returns
returns c =
    let ps = c.args.points.now in
    c.is_majority.ensures (λ k. is_right c.args.line (get_or ps k (point nan nan))) (λ k r h p. search rules) ∙ majority_of_items (is_right c.args.line) ps (point nan nan)
