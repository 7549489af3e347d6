use Rattle.std.proofs.Common.{zero-add, rules}
use Rattle.inscribed.specs.Store.{circle_at, circles_of}
use Rattle.inscribed.proofs.StoreLaws.{length-circles}
use Rattle.inscribed.proofs.MeasureLaws.{circle_of_list}
use Rattle.inscribed.proofs.checked.CirclesInUse.index_of_tmax.Goals as goal

pub returns : goal.returns
returns c =
    let ns = c.args.self.now.store.now in
    let n = c.args.self.now.count in
    let d = circle_at ns 0 in
    c.index_of_greatest.ensures (circles_of ns n) d (length-circles ns 0 n) (λ k r h p. rw (circle_of_list ns 0 n k d h, zero-add k) (search rules))
