-- `transpose_words` makes three rounds of exchanges, each word of the last by the words of the one before. Assumes nothing.
use mathlib.Core.Path.{refl}
use native.Mathlib.Omega.{arith}
use Rattle.shuffle.proofs.TurnLaws.{words_turned}
use Rattle.shuffle.proofs.words.transpose_words.Goals as goal

pub returns : goal.returns
returns c = let a0 = c.exchanged-a0 in
    let a1 = c.exchanged-a1 in
    let a2 = c.exchanged-a2 in
    let a3 = c.exchanged-a3 in
    let b0 = c.exchanged-b0 in
    let b1 = c.exchanged-b1 in
    let b4 = c.exchanged-b4 in
    let b5 = c.exchanged-b5 in
    let c0 = c.exchanged-c0 in
    let c2 = c.exchanged-c2 in
    let c4 = c.exchanged-c4 in
    let c6 = c.exchanged-c6 in
    words_turned
    _
    _
    _
    _
    _
    _
    _
    _
    _
    (rw (c0.ensures.0, b0.ensures.0, a0.ensures.0, a2.ensures.0, b1.ensures.0, a1.ensures.0, a3.ensures.0) refl, omega arith)
    (rw (c0.ensures.1, b0.ensures.0, a0.ensures.0, a2.ensures.0, b1.ensures.0, a1.ensures.0, a3.ensures.0) refl, omega arith)
    (rw (c2.ensures.0, b0.ensures.1, a0.ensures.0, a2.ensures.0, b1.ensures.1, a1.ensures.0, a3.ensures.0) refl, omega arith)
    (rw (c2.ensures.1, b0.ensures.1, a0.ensures.0, a2.ensures.0, b1.ensures.1, a1.ensures.0, a3.ensures.0) refl, omega arith)
    (rw (c4.ensures.0, b4.ensures.0, a0.ensures.1, a2.ensures.1, b5.ensures.0, a1.ensures.1, a3.ensures.1) refl, omega arith)
    (rw (c4.ensures.1, b4.ensures.0, a0.ensures.1, a2.ensures.1, b5.ensures.0, a1.ensures.1, a3.ensures.1) refl, omega arith)
    (rw (c6.ensures.0, b4.ensures.1, a0.ensures.1, a2.ensures.1, b5.ensures.1, a1.ensures.1, a3.ensures.1) refl, omega arith)
    (rw (c6.ensures.1, b4.ensures.1, a0.ensures.1, a2.ensures.1, b5.ensures.1, a1.ensures.1, a3.ensures.1) refl, omega arith)
