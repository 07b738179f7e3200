-- `lines::put_sign` meets its contract. Assumes nothing.
use Rattle.definitions.specs.Lists.{bytes}
use Rattle.lines.proofs.put_sign.Goals as goal

pub returns-in-On : goal.returns-in-On
unfolding bytes
returns-in-On c = rw c.in-On.is c.put.ensures

pub returns-in-Not : goal.returns-in-Not
unfolding bytes
returns-in-Not c = rw c.in-Not.is c.put-in-Not.ensures
