use Prim.Native.Nat.{◌+◌, ◌*◌}
use mathlib.Core.Path.{◌≡◌, refl}
use native.Mathlib.Omega.{arith}
use Rattle.curve2.proofs.entering.Laws.{too_near, not_rising_lem, edge_passed, all_spaced}
use Rattle.curve2.specs.Section.{lengths_of}
use Rattle.curve2.proofs.entering.is_not_spaced.Goals.{then-edge-tol-via-then-edge-tol, then-edge-tol-via-else-edge-tol+then-not-length-next}
use Rattle.curve2.proofs.entering.is_not_spaced.Goals as goal

pub loop-i-init : goal.loop-i-init
unfolding lengths_of
loop-i-init c = refl

pub returns-then-edge-tol : goal.returns-then-edge-tol
returns-then-edge-tol c = elim c.then-edge-tol.branch [
  | then-edge-tol-via-then-edge-tol w ↦ too_near _ _ _ _ c.loop-i.invariant (omega arith) _ c.edge_length-edge.ensures w.if-edge-tol.true
  | then-edge-tol-via-else-edge-tol+then-not-length-next w ↦ not_rising_lem _ _ _ _ c.loop-i.invariant (omega arith) _ c.edge_length-edge.ensures w.if-edge-tol.false w.if-not-length-next.true
]

pub loop-i-preserved : goal.loop-i-preserved
loop-i-preserved c =
    let next : 2 * (c.loop-i.i + 1) ≡ 2 * c.loop-i.i + 2 = omega arith in
    rw next (edge_passed _ _ _ _ c.loop-i.invariant (omega arith) _ c.edge_length-edge.ensures c.if-edge-tol.false c.if-not-length-next.false)

pub returns : goal.returns
returns c = all_spaced _ _ (2 * c.loop-i.i) _ c.loop-i.invariant (omega (arith, c.requires.even, c.requires.least))
