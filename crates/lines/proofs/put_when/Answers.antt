-- `lines::put_when` meets its contract. Assumes nothing.
use Rattle.definitions.specs.Lists.{bytes}
use Rattle.lines.proofs.put_when.Goals as goal

pub returns-in-On : goal.returns-in-On
unfolding bytes
returns-in-On c = rw c.in-On.is c.put_all.ensures

pub returns-in-Not : goal.returns-in-Not
unfolding bytes
returns-in-Not c = rw c.in-Not.is c.put_all-in-Not.ensures
