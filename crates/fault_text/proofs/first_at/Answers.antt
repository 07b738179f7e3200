-- `fault_text::first_at` meets its contract. Assumes nothing.
use Rattle.first_faults.proofs.Laws.{met-clocked}
use Rattle.fault_text.proofs.first_at.Goals as goal

pub returns-clause-node_met : goal.returns-clause-node_met
returns-clause-node_met c =
    λ r. met-clocked _ _ _ c.node.ensures c.requires c.fault_in.result c.fault_in.ensures.deepness.refused_at (λ n q d. c.fault_in.ensures.deepness.deep n q d r) (λ i n q k h d e. c.fault_in.ensures.fault_value i n q k h d e r)
