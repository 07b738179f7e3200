-- In a node that uses no clocks none is too deep, and of another inference tells.
use mathlib.Core.Path.{◌∙◌}
use Rattle.infer_clocks.proofs.Laws.{deep-clockless, deep-by}
use Rattle.infer_clocks.proofs.deep_laid.Goals as goal

pub returns-then-uses_clocks : goal.returns-then-uses_clocks
returns-then-uses_clocks c = λ n q l u. c.is_err.ensures.value ∙ deep-by _ n _ _ _ (c.clock_laid.ensures.clocked_or_deep n q l u)

pub returns-else-uses_clocks : goal.returns-else-uses_clocks
returns-else-uses_clocks c = λ n q l u. c.if-uses_clocks.false ∙ deep-clockless n _ (c.uses_clocks.ensures.of_node n q l) c.if-uses_clocks.false
