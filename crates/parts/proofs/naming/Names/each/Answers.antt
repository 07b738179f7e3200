-- `parts::naming::Names::each` meets its contract: the walk has all names to give. Assumes nothing.
use mathlib.Core.Path.{refl}
use Rattle.parts.proofs.naming.Names.each.Goals as goal

pub returns : goal.returns
returns c = refl
