-- `layout::node_end` meets its contract. Assumes nothing.
use Rattle.layout.proofs.node_end.Goals as goal

pub returns : goal.returns
returns c = λ n q g. (c.node_at.ensures n q g).ends
