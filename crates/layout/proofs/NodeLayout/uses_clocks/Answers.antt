-- `uses_clocks` meets its contract: by the tags of the equations' tokens. Assumes nothing.
use mathlib.Core.Path.{refl, ◌∙◌}
use Rattle.definitions.specs.InferClocks.{uses_clocks}
use Rattle.layout.proofs.Marks.{equations-marks}
use Rattle.layout.proofs.NodeLayout.uses_clocks.Goals as goal

pub returns-clause-of_node : goal.returns-clause-of_node
unfolding uses_clocks
returns-clause-of_node c = λ n q h. let m = equations-marks _ _ c.args.source.now.same_length _ _ _ n.equations _ _ h.equations.items refl in c.some_sample.ensures _ m.0 m.1 ∙ m.2

pub returns-clause-of_equations : goal.returns-clause-of_equations
returns-clause-of_equations c = λ M l h. let m = equations-marks _ _ c.args.source.now.same_length M _ _ l _ _ h refl in c.some_sample.ensures _ m.0 m.1 ∙ m.2
