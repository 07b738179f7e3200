-- The nodes left tell what is answered.
use mathlib.Core.Path.{refl, ◌∙◌}
use native.Mathlib.Omega.{arith}
use Rattle.infer_clocks.proofs.Laws.{nodes-start, nodes-end, nodes-step, nodes-deep, room-kept}
use Rattle.infer_clocks.proofs.first_deep.Goals as goal

pub loop-k-init : goal.loop-k-init
loop-k-init c = (refl, refl, refl, refl, λ ns q g u. nodes-start _ _ _ _ q ns g)

pub returns-then-deep_laid : goal.returns-then-deep_laid
returns-then-deep_laid c =
    let l = c.loop-k in
    λ ns q g u. nodes-deep _ _ _ _ q _ _ _ c.loop-k-test.true c.node_at-l.ensures (λ n p e. c.deep_laid.ensures n p e (room-kept l.invariant.0 l.invariant.1 l.invariant.2 u)) (l.invariant.4 ns q g u) c.if-deep_laid.true

pub loop-k-preserved : goal.loop-k-preserved
loop-k-preserved c =
    let l = c.loop-k in
    (c.deep_laid.auto.env ∙ l.invariant.0, c.deep_laid.auto.marks ∙ l.invariant.1, c.deep_laid.auto.table ∙ l.invariant.2, c.deep_laid.auto.sites ∙ l.invariant.3, λ ns q g u. nodes-step _ _ _ _ q _ _ _ c.loop-k-test.true c.node_at-l.ensures (λ n p e. c.deep_laid.ensures n p e (room-kept l.invariant.0 l.invariant.1 l.invariant.2 u)) (l.invariant.4 ns q g u) c.if-deep_laid.false)

pub returns : goal.returns
returns c = λ ns q g u. nodes-end _ _ _ _ q _ (omega (arith, c.loop-k-test.false)) (c.loop-k.invariant.4 ns q g u)
