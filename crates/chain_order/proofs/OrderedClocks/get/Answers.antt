-- `chain_order::OrderedClocks::get` meets its contract: the clock of this row, and no other's. Assumes nothing.
use Rattle.chain_order.proofs.OrderedClocks.get.Goals as goal

pub returns : goal.returns
returns c = c.get.ensures
