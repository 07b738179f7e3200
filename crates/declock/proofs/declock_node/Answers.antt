-- `declock::declock_node` meets its contract: its front, its body, its probes.
-- Assumes nothing.
use Rattle.declock.proofs.Written.{ready-node}
use Rattle.declock.proofs.declock_node.Goals as goal

pub returns : goal.returns
returns c = λ names h ids q. ready-node names h ids q _ (c.put_declared.ensures names h ids q) (c.put_body.ensures names h ids q) (c.put_probes.ensures _ _ _ h.grounds.laid)
