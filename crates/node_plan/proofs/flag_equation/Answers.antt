-- `node_plan::flag_equation` meets its contract.
-- Assumes nothing.
use Rattle.node_plan.proofs.Flags.{flag-noted}
use Rattle.node_plan.proofs.flag_equation.Goals as goal

pub returns-clause-flagged : goal.returns-clause-flagged
returns-clause-flagged c = λ y B. flag-noted _ _ _ _ _ _ _ _ _ _ c.flag_word.ensures c.add_with_parents-row.ensures.grown.held c.add_with_parents-row.ensures.row y B c.put_at.ensures
