-- `plan::is_typed` meets its contract.
-- Assumes nothing.
use mathlib.Core.Path.{◌∙◌}
use Rattle.plan.proofs.Sites.{typed-there}
use Rattle.plan.proofs.is_typed.Goals as goal

pub returns : goal.returns
returns c = λ e q ds g k. c.is_some.ensures ∙ typed-there _ _ _ _ (c.type_of.ensures e q ds g k)
