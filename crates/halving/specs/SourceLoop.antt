-- The source's loop itself, without a bound: which answer it ends in, from given ends. `halving_loops` proves that `halving` with 52 steps gives it. Assumes nothing.
use Rattle.std.specs.Prelude.{◌≡◌, true, false, List, Float, Ok, Err}
use Rattle.errors.specs.declared.Refusal.{Refusal}
use Rattle.errors.specs.Answer.{Answer}
use Rattle.inscribed.specs.declared.Inscribed.{Inscribed}
use Rattle.line2.specs.declared.Line2.{Line2}
use Rattle.halving.specs.Halving.{SearchEnds, halved, circle_between, is_wide}

-- `while` the ends are wide apart, halve; then the circle between them
pub data SourceLoop (ns : List Float) (l : Line2) (resolve len : Float) : SearchEnds → Answer Inscribed → Type 0 where
  stops : (e : SearchEnds) → is_wide resolve len e ≡ false → SourceLoop ns l resolve len e (circle_between ns l e)
  refuses : (e : SearchEnds) (n : Refusal) → is_wide resolve len e ≡ true → halved ns l e ≡ Err n → SourceLoop ns l resolve len e (Err n)
  goes : (e next : SearchEnds) (a : Answer Inscribed) → is_wide resolve len e ≡ true → halved ns l e ≡ Ok next → SourceLoop ns l resolve len next a → SourceLoop ns l resolve len e a
