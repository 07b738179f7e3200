use Rattle.grammar.proofs.Laws.{passes}
use Rattle.grammar.proofs.Parts.{node-ports, node-more}
use Rattle.grammar.proofs.read_node.Goals as goal

pub returns-in_err-body : goal.returns-in_err-body
returns-in_err-body c = passes _ _ _ c.from_residual-in_err-body.ensures (node-ports _ _ _ _ c.read_id.ensures _ c.in_ok-kind.was _ c.read_kind.ensures _ c.in_ok-interface.was _ c.read_interface.ensures _ c.in_err-body.was)

pub returns : goal.returns
returns c = node-more _ _ _ _ c.read_id.ensures _ c.in_ok-kind.was _ c.read_kind.ensures _ c.in_ok-interface.was _ c.read_interface.ensures _ _ c.in_ok-body.was c.read_body.ensures
