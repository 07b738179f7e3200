-- `planned::open_gate` meets its contract: the name that is called is an operator's, whose outputs are found.
-- Assumes nothing.
use Rattle.planned.proofs.Walk.{opened-other, opened-gate}
use Rattle.planned.proofs.open_gate.Goals as goal

pub returns-in_default-clause-opened_as : goal.returns-in_default-clause-opened_as
returns-in_default-clause-opened_as c = λ W at q l s f g v i x. absurd (opened-other c.args.written.now W s at q _ l i x _ (rw v at c.operator_of.ensures W.nodes s.standing) c.in_default.is)

pub returns-clause-opened_as : goal.returns-clause-opened_as
returns-clause-opened_as c = λ W at q l s f g v i x. rw f (opened-gate c.args.written.now W s at q _ l i x _ (rw v at c.operator_of.ensures W.nodes s.standing) _ c.in-Some.is _ _ _ c.put_gate.ensures (rw (g, v) at c.put.ensures))
