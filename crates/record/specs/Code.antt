-- The code's own steps: bytes put into an output, values beside the bytes behind them. No entry point's promise rests on it. Assumes nothing.
use Rattle.std.specs.Prelude.{◌≡◌, List, ◌++◌, ℕ, ◌+◌, length, take, drop, Ok, Err}
use Rattle.std.specs.Borrow.{Bor}
use Rattle.errors.specs.Answer.{Answer}
use Rattle.inscribed.specs.declared.Inscribed.{Inscribed}

-- an output with bytes put from a place on
unfoldable pub placed : ℕ → List ℕ → List ℕ → List ℕ
placed at bs out = take at out ++ bs ++ drop (at + length bs) out

-- bytes were put from a place on, and r is the place behind them
abbrev pub Puts : ℕ → List ℕ → List ℕ → List ℕ → ℕ → Type 0
Puts at bs old new r = (r ≡ at + length bs) × (new ≡ placed at bs old)

-- what was read, and the bytes behind it, without where they lie in memory
abbrev pub seen : {A : Type 0} → Answer (A × Bor (List ℕ)) → Answer (A × List ℕ)
seen (Ok x) = Ok (x.0, x.1.now)
seen (Err r) = Err r

-- circles that were read into a list, and the bytes behind them
abbrev pub seen_circles : Answer (Bor (List ℕ)) → List Inscribed → Answer (List Inscribed × List ℕ)
seen_circles (Ok rest) cs = Ok (cs, rest.now)
seen_circles (Err r) cs = Err r
