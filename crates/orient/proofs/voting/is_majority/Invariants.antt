-- `is_majority` counts the votes. The loop keeps that what is left, after the votes so far, is the whole. Assumes nothing.
use Rattle.std.proofs.Common.{◌≡◌, ℕ, Bool, ◌-◌, ◌<◌, ◌≤◌}
use Rattle.std.specs.List.{range_with_len}
use Rattle.errors.specs.Answer.{Answer}
use Rattle.orient.specs.Votes.{votes_from}
use Rattle.orient.proofs.voting.is_majority.Given as goal

abbrev pub invariant-loop-k : goal.invariant-loop-k
invariant-loop-k g l =
    (l.votes ≤ l.k)
    × ((v : ℕ → Answer Bool) → ((k : ℕ) → (r : Answer Bool) → k < l.count → goal.F-post g l.vote k r → r ≡ v k) → votes_from v l.votes (range_with_len l.k (l.count - l.k)) ≡ votes_from v 0 (range_with_len 0 l.count))
