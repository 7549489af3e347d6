-- The law of the turn, of words that have 64 bits by their type. Assumes nothing.
use native.Mathlib.Omega.{arith}
use Rattle.shuffle.proofs.TurnLaws.{turn_law}
use Rattle.shuffle.proofs.laws.turn_law.Goals as goal

pub returns : goal.returns
returns c = λ whole. turn_law c.args.words.now whole (λ k. omega (arith, c.type_inv.words k))
