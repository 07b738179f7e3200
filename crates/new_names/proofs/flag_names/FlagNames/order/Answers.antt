-- `new_names::flag_names::FlagNames::order` meets its contract: the front of the order is lent. Assumes nothing.
use Rattle.new_names.proofs.Added.{take-least}
use native.Mathlib.Omega.{arith}
use Rattle.new_names.proofs.flag_names.FlagNames.order.Goals as goal

pub returns-clause-value : goal.returns-clause-value
returns-clause-value c = take-least c.args.self.now.order c.args.self.now.ordered _ (omega arith) c.min.ensures
