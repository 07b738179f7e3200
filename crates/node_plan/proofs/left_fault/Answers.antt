-- `node_plan::left_fault` meets its contract.
-- Assumes nothing.
use mathlib.Core.Path.{◌∙◌, ap}
use Rattle.node_plan.specs.Noted.{told_of}
use Rattle.node_plan.proofs.Lefts.{left-unknown, left-has, left-lacks, fails, given, not-given}
use Rattle.node_plan.proofs.left_fault.Goals as goal

pub returns-then-not-has_default : goal.returns-then-not-has_default
returns-then-not-has_default c = λ types l node k b. left-lacks types l node _ k _ b _ c.last_type.ensures _ (given _ _ _ c.ok_or.ensures.value _ c.in_ok-at.was) _ (λ t q g. c.has_default.ensures types t q k.typed g) c.if-not-has_default.true

pub returns : goal.returns
returns c = λ types l node k b. left-has types l node _ k _ b _ c.last_type.ensures _ (given _ _ _ c.ok_or.ensures.value _ c.in_ok-at.was) _ (λ t q g. c.has_default.ensures types t q k.typed g) c.if-not-has_default.false

pub returns-in_err-at : goal.returns-in_err-at
returns-in_err-at c = λ types l node k b. let n = not-given _ _ _ c.ok_or.ensures.value _ c.in_err-at.was in ap told_of (fails _ _ c.from_residual.ensures) ∙ (rw n.1 (left-unknown types l node _ k _ b _ c.last_type.ensures n.0))
