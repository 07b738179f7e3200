-- `typing::constant_type` meets its contract.
-- Assumes nothing.
use Rattle.layout.proofs.TypedefsLaws.{err-of, ok-of}
use Rattle.typing.proofs.Laws.{head-token, const-arm, const-other, const-refused}
use Rattle.typing.proofs.constant_type.Goals as goal

pub returns-in_err-t : goal.returns-in_err-t
returns-in_err-t c = λ l w q g. let e = err-of _ _ c.ok.ensures.value c.in_err-t.was in absurd (const-refused _ l _ (head-token _ _ _ l w q _ c.expr_head.ensures g) e.0 e.1)

pub returns-in_default : goal.returns-in_default
returns-in_default c = λ l w q g. absurd (const-other _ l _ (head-token _ _ _ l w q _ c.expr_head.ensures g) _ _ (ok-of _ _ _ c.ok.ensures.value c.in_ok-t.was) c.in_default.not-Const)

pub returns-in-Const : goal.returns-in-Const
returns-in-Const c = λ l w q g. const-arm _ l _ (head-token _ _ _ l w q _ c.expr_head.ensures g) _ _ _ (ok-of _ _ _ c.ok.ensures.value c.in_ok-t.was) c.in-Const.is _ c.literal_type.ensures
