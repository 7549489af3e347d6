-- `state_law`. Assumes nothing.
use mathlib.Core.Path.{◌≡◌, refl, ap}
use mathlib.Core.Bool.{Bool, true, false, cond}
use lib.Dec.{ltb}
use Rattle.rummyteak.specs.Told.{state_left}
use Rattle.rummyteak.proofs.laws.state_law.Goals as goal

same_flag : (b : Bool) → ltb 0 (cond b 1 0) ≡ b
same_flag true = refl
same_flag false = refl

pub returns : goal.returns
unfolding state_left
returns c = λ before s. ap (λ (b : Bool). record s { is_refining = b }) (same_flag s.is_refining)
