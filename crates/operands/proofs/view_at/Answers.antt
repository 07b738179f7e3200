-- `operands::view_at` meets its contract. The law of an expression, and of tokens that are none.
-- Assumes nothing.
use mathlib.Core.Path.{refl, ap}
use Rattle.grammar.proofs.Laws.{told-got, told-refused}
use Rattle.operands.specs.declared.Operands.{Operands}
use Rattle.operands.proofs.Laws.{viewed, unviewed}
use Rattle.operands.proofs.view_at.Goals as goal

pub returns-in-Ok : goal.returns-in-Ok
returns-in-Ok c = viewed _ _ _ _ _ _ _ (told-got _ _ _ _ c.expr_head.ensures c.in-Ok.is) c.role_of.ensures c.operands_of-operands.ensures refl

pub returns-in-Err : goal.returns-in-Err
returns-in-Err c = unviewed _ _ _ _ _ (told-refused _ _ _ c.expr_head.ensures c.in-Err.is) (ap (λ (o : Operands). o.rest.next) c.plain.ensures)
