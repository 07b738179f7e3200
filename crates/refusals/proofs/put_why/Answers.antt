-- `refusals::put_why` meets its contract. Assumes nothing.
use Rattle.definitions.specs.Lists.{bytes}
use Rattle.refusals.proofs.put_why.Goals as goal

pub returns-in-Token : goal.returns-in-Token
unfolding bytes
returns-in-Token c = rw c.in-Token.is c.put_all-in-Token.ensures

pub returns-in-Limit : goal.returns-in-Limit
unfolding bytes
returns-in-Limit c = rw c.in-Limit.is c.put_all-in-Limit.ensures
