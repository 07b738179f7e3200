-- `is_operator` meets its contract. Assumes nothing.
use mathlib.Core.Path.{◌∙◌}
use Rattle.index.proofs.CalleesLaws.{operator-there}
use Rattle.index.proofs.Index.is_operator.Goals as goal

pub returns : goal.returns
returns c = λ l s. c.is_some.ensures ∙ operator-there c.args.self.now l s c.args.f c.operator_named.result (c.operator_named.ensures l s)
