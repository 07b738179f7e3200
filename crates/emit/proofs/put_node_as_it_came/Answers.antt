-- `emit::put_node_as_it_came` meets its contract: one part after the other. Assumes nothing.
use Rattle.emit.proofs.NodePartsLaws.{declared-locals, whole-node}
use Rattle.emit.proofs.put_node_as_it_came.Goals as goal

pub returns : goal.returns
returns c = λ M n q h. whole-node M _ n q _ h _ _ _ _ _ (c.put_front.ensures M n q h) (declared-locals M _ n q _ h _ _ c.put_counted.ensures) (c.put_equations.ensures M n q h) (c.put_probes.ensures M n q h)
