-- `root_above_zero`: the root of a * 2 ^ 52 has 53 digits, and the nearest whole number is it or the next. Assumes nothing.
use Rattle.std.proofs.Common.{◌∙◌, arith}
use Rattle.root.proofs.digits.Rounded.{word_rooted, near_up, near_down, rounded}
use Rattle.root.proofs.digits.root_above_zero.Goals as goal

pub returns-then-root : goal.returns-then-root
returns-then-root c =
    let scaled = c.split-scaled.ensures in
    let rooted = word_rooted scaled c.root_of_word-root.ensures.rooted in
    c.joined.ensures ∙ rounded c.args.x c.requires _ _ _ scaled (near_up rooted c.if-root.true)

pub returns-else-root : goal.returns-else-root
returns-else-root c =
    let scaled = c.split-scaled.ensures in
    let rooted = word_rooted scaled c.root_of_word-root.ensures.rooted in
    c.joined-else-root.ensures ∙ rounded c.args.x c.requires _ _ _ scaled (near_down (omega (arith, scaled.low)) rooted c.if-root.false)
