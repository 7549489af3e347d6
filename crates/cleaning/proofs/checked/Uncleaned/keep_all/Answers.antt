use Rattle.std.proofs.Common.{◌≡◌, ◌+◌, ◌*◌, arith, refl, ap, ◌∙◌}
use Rattle.cleaning.proofs.HeldLaws.{kept_one, kept_last, keep-count, clean-numbers}
use Rattle.cleaning.specs.Code.{Held, put}
use Rattle.cleaning.proofs.checked.Uncleaned.keep_all.Goals as goal

pub loop-i-init : goal.loop-i-init
unfolding put
loop-i-init c = (omega (arith, ap (λ (h : Held). h.kept.count) c.put-k.ensures), refl)

pub loop-i-preserved : goal.loop-i-preserved
loop-i-preserved c =
    let next : 2 * (c.loop-i.i + 1) ≡ 2 * c.loop-i.i + 2 = omega arith in
    (omega (arith, keep-count _ _ _ _ c.keep-k.ensures), rw next (kept_one _ c.args.self.now.points.now _ _ _ c.loop-i.invariant.1 (omega arith) _ (rw c.vertex_at-in-loop-i.ensures at c.keep-k.ensures)))

pub returns : goal.returns
returns c =
    let s = c.args.self.now in
    kept_last _ s.points.now (2 * c.loop-i.i) _ _ c.loop-i.invariant.1 (omega (arith, s.even)) ∙ rw (c.put-k.ensures, c.vertex_at.ensures) (clean-numbers _ c.args.out.now s.points.now s.even s.least c.requires)
