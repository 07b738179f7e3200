-- `typing::call_after` meets its contract.
-- Assumes nothing.
use Rattle.typing.proofs.RewrittenShapeLaws.{call-plain, call-gated, call-other}
use Rattle.typing.proofs.call_after.Goals as goal

pub returns-then-is_base : goal.returns-then-is_base
returns-then-is_base c = λ es types l node s. call-plain types l node _ _ _ es _ c.is_base.ensures c.if-is_base.true

pub returns-then-is_operator : goal.returns-then-is_operator
returns-then-is_operator c = λ es types l node s. call-gated types l node _ _ _ es _ c.is_base.ensures c.if-is_base.false _ (c.is_operator.ensures l s) c.if-is_operator.true

pub returns : goal.returns
returns c = λ es types l node s. call-other types l node _ _ _ es _ c.is_base.ensures c.if-is_base.false _ (c.is_operator.ensures l s) c.if-is_operator.false
