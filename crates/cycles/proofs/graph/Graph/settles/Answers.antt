-- `cycles::graph::Graph::settles` meets its contract: the set so far is settled.
-- Assumes nothing.
use native.Mathlib.Omega.{arith}
use Rattle.cycles.proofs.Laws.{settled-none, no-cycle}
use Rattle.cycles.proofs.graph.Graph.settles.Goals as goal

pub loop-init : goal.loop-init
loop-init c = λ types e. settled-none types _

pub returns-then-is_whole : goal.returns-then-is_whole
returns-then-is_whole c = λ t types e. no-cycle types (λ i h. (c.settle_each-set.ensures types e (c.loop.invariant types e)).acyclic i h (c.is_whole.ensures.0 c.if-is_whole.true i (omega (arith, e.count))) _)
