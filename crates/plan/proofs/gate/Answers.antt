-- `plan::gate` meets its contract.
-- Assumes nothing.
use Rattle.plan.proofs.Closing.{gate-clock}
use Rattle.plan.proofs.gate.Goals as goal

pub returns-clause-gated : goal.returns-clause-gated
returns-clause-gated c = λ y b B. gate-clock _ _ _ _ _ _ _ c.put_at.ensures c.word_past.ensures.says _ _ c.get-c.ensures b c.add_with_parents-gated.ensures.grown.held c.add_with_parents-gated.ensures.row y B
