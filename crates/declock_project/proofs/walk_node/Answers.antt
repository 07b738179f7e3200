-- `declock_project::walk_node` meets its contract: a node that uses no clocks is as it came. Assumes nothing.
use mathlib.Core.Path.{refl, sym, ◌∙◌}
use Rattle.infer_clocks.proofs.Laws.{deep-clockless}
use Rattle.declock_project.proofs.Nodes.{put-clocked, put-came}
use Rattle.first_faults.proofs.Laws.{met-clocked, met-unclocked}
use Rattle.declock_project.proofs.walk_node.Goals as goal

pub returns-then-uses_clocks-clause-node_met : goal.returns-then-uses_clocks-clause-node_met
returns-then-uses_clocks-clause-node_met c = λ r. met-clocked _ _ _ c.node-layout.ensures c.requires _ c.walk_clocked.ensures.deepness.refused_at (λ n q d. c.walk_clocked.ensures.deepness.deep n q d r.plans) (λ i n q k h d e. c.walk_clocked.ensures.fault_value i n q k h d (sym (c.uses_clocks.ensures.of_node n q d) ∙ c.if-uses_clocks.true) e r)

pub returns-then-uses_clocks-clause-node_put : goal.returns-then-uses_clocks-clause-node_put
returns-then-uses_clocks-clause-node_put c = λ r. put-clocked _ _ _ _ c.node-layout.ensures (λ n q d. sym (c.uses_clocks.ensures.of_node n q d) ∙ c.if-uses_clocks.true) (c.walk_clocked.ensures.laid_put r)

pub returns-clause-node_met : goal.returns-clause-node_met
returns-clause-node_met c = λ r. met-unclocked _ _ _ c.node-layout.ensures c.requires _ tt (λ n q d. deep-clockless n _ (c.uses_clocks.ensures.of_node n q d) c.if-uses_clocks.false) (λ n q d. sym (c.uses_clocks.ensures.of_node n q d) ∙ c.if-uses_clocks.false) refl

pub returns-clause-node_put : goal.returns-clause-node_put
returns-clause-node_put c = λ r. put-came _ _ _ _ c.node-layout.ensures (λ n q d. sym (c.uses_clocks.ensures.of_node n q d) ∙ c.if-uses_clocks.false) c.put_node_as_it_came.ensures
