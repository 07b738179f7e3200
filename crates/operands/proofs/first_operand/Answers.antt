-- `operands::first_operand` meets its contract. The law of the first operand.
-- Assumes nothing.
use Rattle.operands.proofs.Laws.{stepped-in}
use Rattle.operands.proofs.first_operand.Goals as goal

pub returns : goal.returns
returns c = stepped-in _ _ _ c.args.source.now.same_length _ _ _ _ c.place-at.ensures (λ e q g. c.expr_end-end.ensures _ _ e q g) c.behind-rest.ensures.0 c.behind-rest.ensures.1
