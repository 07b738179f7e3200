-- `plan::close_call` meets its contract.
-- Assumes nothing.
use mathlib.Core.Path.{sym, ◌∙◌}
use Rattle.plan.proofs.Calls.{close-plain, close-function, close-gated, close-lacks}
use Rattle.plan.proofs.close_call.Goals as goal

pub returns-then-on_base-clause-closes_call : goal.returns-then-on_base-clause-closes_call
returns-then-on_base-clause-closes_call c = record { close = λ types l node y N K B. close-plain types l node _ _ _ _ _ _ c.put_at.ensures (sym c.on_base.ensures ∙ c.if-on_base.true) y B }

pub returns-in_default-clause-closes_call : goal.returns-in_default-clause-closes_call
returns-in_default-clause-closes_call c = record { close = λ types l node y N K B. close-function types l node _ _ _ _ _ _ c.value_at-node.ensures _ c.put_at-in_default.ensures (sym c.on_base.ensures ∙ c.if-on_base.false) _ _ _ (c.operator_of.ensures l N) c.in_default.is y B }

pub returns-in-None-clause-closes_call : goal.returns-in-None-clause-closes_call
returns-in-None-clause-closes_call c = record { close = λ types l node y N K B. close-gated types l node _ _ _ _ _ _ c.value_at-node.ensures (sym c.on_base.ensures ∙ c.if-on_base.false) _ _ _ (c.operator_of.ensures l N) _ c.in-Some.is _ (λ ds g. c.output_lack.ensures ds _ types l node g K) _ c.in-None.is y (c.gate.ensures.gated y (sym c.on_base.ensures ∙ c.if-on_base.false) B) }

pub returns-in-Some-output_lack-clause-closes_call : goal.returns-in-Some-output_lack-clause-closes_call
returns-in-Some-output_lack-clause-closes_call c = record { close = λ types l node y N K B. close-lacks types l node _ _ _ _ c.value_at-node.ensures (sym c.on_base.ensures ∙ c.if-on_base.false) _ _ _ (c.operator_of.ensures l N) _ c.in-Some.is _ (λ ds g. c.output_lack.ensures ds _ types l node g K) _ c.in-Some-output_lack.is _ }
