-- `word_at` reads eight bytes. Assumes nothing.
use Prim.Native.Nat.{◌+◌, ◌-◌}
use native.Mathlib.Omega.{arith}
use lib.ListN.{take, drop}
use Rattle.std.specs.Array.{IsWholeChunk}
use Rattle.std.proofs.lemmas.Result.{MatchResult-at_ok}
use Rattle.shuffle.proofs.WordLaws.{word_holds}
use Rattle.shuffle.proofs.words.word_at.Goals as goal

pub returns : goal.returns
returns c =
    let at = c.args.at in
    let bs = c.args.bytes.now in
    let whole = MatchResult-at_ok (λ y. IsWholeChunk (take (at + 8 - at) (drop at bs)) y 8) _ c.unwrap.result c.unwrap.ensures c.try_into.ensures.1 in
    word_holds bs c.unwrap.result at _ c.requires (λ i. omega (arith, c.type_inv.bytes i)) whole.same c.from_le_bytes.ensures
