use native.Mathlib.Omega.{arith}
use Rattle.std.specs.Prelude.{Ok, Err}
use Rattle.std.proofs.lemmas.Result.{err_from_is_err_and}
use Rattle.orient.proofs.Votes.{vote_yes, vote_no, vote_refused, votes_over, votes_decide, majority_refused}
use Rattle.orient.proofs.voting.is_majority.Goals.{then-branch, else-branch}
use Rattle.orient.proofs.voting.is_majority.Goals as goal

pub loop-k-preserved : goal.loop-k-preserved
loop-k-preserved g c = elim c.if-branch.branch [
  | then-branch w ↦
      rw w.votes-is
      (omega (arith, c.loop-k.invariant.0), λ v agrees. vote_yes v _ _ _ _ (c.loop-k.invariant.1 v agrees) c.loop-k-test.true (rw w.if-branch.true at (agrees c.loop-k.k (Ok c.in_ok-vote.field-0) c.loop-k-test.true c.in_ok-vote.ensures)))
  | else-branch w ↦
      rw w.votes-is
      (omega (arith, c.loop-k.invariant.0), λ v agrees. vote_no v _ _ _ _ (c.loop-k.invariant.1 v agrees) c.loop-k-test.true (rw w.if-branch.false at (agrees c.loop-k.k (Ok c.in_ok-vote.field-0) c.loop-k-test.true c.in_ok-vote.ensures)))
]

pub returns-in_err-vote : goal.returns-in_err-vote
returns-in_err-vote g c = λ v agrees.
    let p = err_from_is_err_and c.from_residual.result c.from_residual.ensures.1 in
    rw (p.1, p.2) (majority_refused v _ _ (vote_refused v _ _ _ _ (c.loop-k.invariant.1 v agrees) c.loop-k-test.true _ (agrees c.loop-k.k (Err c.in_err-vote.field-0.0) c.loop-k-test.true c.in_err-vote.ensures)))

pub returns : goal.returns
returns g c = λ v agrees. votes_decide v _ _ (votes_over v _ _ _ _ (c.loop-k.invariant.1 v agrees) c.loop-k-test.false)
