-- `planned::old_equations` meets its contract: one after another.
-- Assumes nothing.
use Rattle.planned.proofs.Old.{left-none, left-more}
use Rattle.planned.proofs.old_equations.Goals as goal

pub loop-preserved : goal.loop-preserved
loop-preserved c = λ W ids lay cs end g i free n h. left-more _ c.args.written.now.index.now.source.tags.now c.args.written.now.index.now.source.values.now W c.args.written.now.plan.now ids _ _ _ _ _ _ _ _ c.loop-test.true (c.loop.invariant W ids lay cs end g i free n h) (λ m κ e q f u. c.one_equation-place.ensures W ids lay m κ e q g i f u)

pub returns : goal.returns
returns c = λ W ids lay cs end g i free n h. left-none _ c.args.written.now.index.now.source.tags.now c.args.written.now.index.now.source.values.now W c.args.written.now.plan.now ids _ _ _ _ _ _ c.loop-test.false (c.loop.invariant W ids lay cs end g i free n h)
