-- `cycles::graph::Graph::settle_each` meets its contract: the set so far is settled.
-- Assumes nothing.
use mathlib.Core.Path.{◌∙◌}
use native.Mathlib.Omega.{arith}
use lib.ListN.{length-set}
use Rattle.cycles.proofs.Laws.{settled-more}
use Rattle.cycles.proofs.graph.Graph.settle_each.Goals as goal

pub loop-i-preserved-then-is_within : goal.loop-i-preserved-then-is_within
loop-i-preserved-then-is_within c = (
  length-set c.loop-i.more _ _ ∙ c.loop-i.invariant.0,
  λ types e s. settled-more types _ e c.loop-i.more (c.loop-i.invariant.1 types e s) _ (omega (arith, e.count)) (omega (arith, c.loop-i.invariant.0)) (rw e.count (c.is_within.ensures.0 c.if-is_within.true)),
)
