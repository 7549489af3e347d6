use native.Mathlib.Omega.{arith}
use Rattle.shuffle.proofs.LayoutLaws.{layout_bounded, from_layout, moved_group, moved_byte}
use Rattle.shuffle.proofs.moving.move_numbers.Goals as goal

pub loop-g-preserved : goal.loop-g-preserved
loop-g-preserved c =
    let read = rw (c.place.ensures, c.run.ensures) at c.words_at-words.ensures in
    let put = rw (c.transpose_words.ensures, c.place-in-loop-g.ensures, c.run-in-loop-g.ensures) at c.put_words.ensures in
    moved_group c.args.n c.args.from c.args.to c.requires.opposite _ _ _ _ _ c.loop-g.g (omega arith) read c.loop-g.invariant put

pub bounds-input-place : goal.bounds-input-place
bounds-input-place c = omega (arith, layout_bounded c.args.n c.args.from (from_layout _ _ _ c.requires.opposite) c.loop-p.p (omega arith))

pub loop-p-preserved : goal.loop-p-preserved
loop-p-preserved c = rw (c.place-in-loop-p.ensures, c.place-in-loop-p-2.ensures) (moved_byte c.args.n c.args.from c.args.to c.requires.opposite _ _ _ c.loop-p.p (omega arith) (omega arith) c.loop-p.invariant)
