-- Votes, and what they decide. Assumes nothing.
use Rattle.std.specs.Prelude.{Bool, cond, List, [], ◌∷◌, ℕ, suc, ◌-◌, ltb, length, Ok}
use Rattle.errors.specs.Answer.{Answer, ◌>>=◌}

-- how many vote yes, with those before them
unfoldable pub votes_from : {A : Type 0} → (A → Answer Bool) → ℕ → List A → Answer ℕ
votes_from vote votes [] = Ok votes
votes_from vote votes (x ∷ xs) = vote x >>= λ yes. votes_from vote (cond yes (suc votes) votes) xs

-- whether more vote yes than don't
unfoldable pub majority : {A : Type 0} → (A → Answer Bool) → List A → Answer Bool
unfolding votes_from
majority vote xs = votes_from vote 0 xs >>= λ votes. Ok (ltb (length xs - votes) votes)
