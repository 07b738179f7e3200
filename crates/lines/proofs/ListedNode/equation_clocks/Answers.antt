-- `lines::ListedNode::equation_clocks` meets its contract: the walk has all of them to give. Assumes nothing.
use mathlib.Core.Path.{refl}
use Rattle.lines.proofs.ListedNode.equation_clocks.Goals as goal

pub returns : goal.returns
returns c = refl
