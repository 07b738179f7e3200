-- `new_names::node_names::NodeNames::held` meets its contract: the front of the numbers is lent. Assumes nothing.
use Rattle.new_names.proofs.Added.{take-least}
use native.Mathlib.Omega.{arith}
use Rattle.new_names.proofs.node_names.NodeNames.held.Goals as goal

pub returns-clause-value : goal.returns-clause-value
returns-clause-value c = take-least c.args.self.now.hold_numbers c.args.self.now.holds _ (omega arith) c.min.ensures
