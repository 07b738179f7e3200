-- `plan::close_follow` meets its contract.
-- Assumes nothing.
use mathlib.Core.Path.{sym, ◌∙◌}
use Rattle.plan.proofs.Closing.{follow-clock}
use Rattle.plan.proofs.close_follow.Goals as goal

pub returns-clause-followed : goal.returns-clause-followed
returns-clause-followed c = follow-clock _ _ _ _ _ _ _ _ _ c.put_at-2.ensures c.word_past.ensures.says _ _ c.get-c.ensures (sym c.on_base.ensures ∙ c.if-on_base.false) c.add_with_parents.ensures.grown.held c.add-row.ensures.grown.held c.add-row.ensures.row
