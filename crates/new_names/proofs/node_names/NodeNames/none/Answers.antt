-- `new_names::node_names::NodeNames::none` meets its contract: nothing is there. Assumes nothing.
use mathlib.Core.Path.{refl}
use Rattle.new_names.proofs.node_names.NodeNames.none.Goals as goal

pub returns-clause-ordered : goal.returns-clause-ordered
returns-clause-ordered c = (c.none.ensures.1, c.none-2.ensures.1, refl, refl)
