-- `planned::put_hold_equations` meets its contract: one after another.
-- Assumes nothing.
use Rattle.std.proofs.lemmas.List.{get_or_default}
use Rattle.planned.proofs.HoldsLaws.{equations-none, equations-more}
use Rattle.planned.proofs.put_hold_equations.Goals as goal

pub loop-j-preserved : goal.loop-j-preserved
loop-j-preserved c = λ W hs ids n g h i. equations-more _ c.args.written.now.index.now.source.tags.now c.args.written.now.index.now.source.values.now W c.args.written.now.plan.now c.args.written.now.holds.now ids c.args.written.now.ids.holds.now i _ _ _ _ _ c.loop-j-test.true (c.loop-j.invariant W hs ids n g h i) (λ u s. c.put_equation.ensures W u (get_or_default c.args.written.now.holds.now c.loop-j.j _ _ c.loop-j-test.true) g s)

pub returns : goal.returns
returns c = λ W hs ids n g h i. equations-none _ c.args.written.now.index.now.source.tags.now c.args.written.now.index.now.source.values.now W c.args.written.now.plan.now c.args.written.now.holds.now ids _ _ _ _ c.loop-j-test.false (c.loop-j.invariant W hs ids n g h i)
