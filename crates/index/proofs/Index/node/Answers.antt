-- `node` meets its contract; without this the check finds it, but edit `first_node_always` would meet no fact. Assumes nothing.
use Rattle.index.proofs.Index.node.Goals as goal

pub returns : goal.returns
returns c = c.node_at.ensures
