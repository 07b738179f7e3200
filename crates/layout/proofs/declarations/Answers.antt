-- `layout::declarations` meets its contract: the walk has all of them to give. Assumes nothing.
use mathlib.Core.Path.{refl}
use Rattle.layout.specs.Walk.{declared_left}
use Rattle.layout.proofs.Walks.{laid-all}
use Rattle.layout.proofs.declarations.Goals as goal

pub returns-clause-left : goal.returns-clause-left
unfolding declared_left
returns-clause-left c = refl

pub returns-clause-laid : goal.returns-clause-laid
unfolding declared_left
returns-clause-laid c = λ ds s. laid-all _ _ _ _ ds _ s.items
