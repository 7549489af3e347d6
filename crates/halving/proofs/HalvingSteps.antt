-- The loop of the halving: each way through its body keeps that what is left decides. Assumes nothing.
use mathlib.Core.Path.{◌≡◌}
use mathlib.Core.Bool.{true, false}
use mathlib.Core.List.{List}
use Prim.Native.Nat.{ℕ, suc, ◌+◌, ◌-◌, ◌<◌}
use native.Mathlib.Omega.{arith}
use lib.Ieee.{Float}
use Rattle.std.specs.Prelude.{Ok, Err}
use Rattle.errors.specs.Answer.{Answer}
use Rattle.errors.specs.declared.Refusal.{Refusal}
use Rattle.line2.specs.declared.Line2.{Line2}
use Rattle.halving.specs.Halving.{SearchEnds, halved, circle_between, is_wide, halving}
use Rattle.inscribed.specs.declared.Inscribed.{Inscribed}

-- after k of 52 halvings
module _ (ns : List Float) (l : Line2) (resolve len : Float) (k : ℕ) (e : SearchEnds) (whole : Answer Inscribed) (inv : halving ns l resolve len (52 - k) e ≡ whole) where
  module _ (more : k < 52) where
    one_more : 52 - k ≡ suc (52 - (k + 1))
    one_more = omega arith

    pub narrow : is_wide resolve len e ≡ false → circle_between ns l e ≡ whole
    unfolding halving
    narrow p = rw (one_more, p) at inv

    module _ (wide : is_wide resolve len e ≡ true) (r : Answer SearchEnds) (is : r ≡ halved ns l e) where
      pub halving-refused : (x : Refusal) → r ≡ Err x → Err x ≡ whole
      unfolding halving
      halving-refused x p = rw (one_more, wide, ← (rw p at is)) at inv

      pub halving_on : (next : SearchEnds) → r ≡ Ok next → halving ns l resolve len (52 - (k + 1)) next ≡ whole
      unfolding halving
      halving_on next p = rw (one_more, wide, ← (rw p at is)) at inv

  pub spent : k ≡ 52 → circle_between ns l e ≡ whole
  unfolding halving
  spent p = rw p at inv
