-- `plan::close_previous` meets its contract.
-- Assumes nothing.
use mathlib.Core.Path.{sym, ◌∙◌}
use Rattle.definitions.specs.Declock.{operand_type}
use Rattle.stateless.specs.Need.{is_bare}
use Rattle.plan.proofs.Closing.{previous-base, previous-bare, previous-held, previous-untyped}
use Rattle.plan.proofs.close_previous.Goals.{then-on_base-via-then-on_base, then-on_base-via-else-on_base+then-is_name}
use Rattle.plan.proofs.close_previous.Goals as goal

pub returns-then-on_base-clause-closes_previous : goal.returns-then-on_base-clause-closes_previous
returns-then-on_base-clause-closes_previous c = record {
  close = λ e q ds y g n D B.
      elim c.then-on_base.branch [
        | then-on_base-via-then-on_base w ↦ previous-base _ _ _ c.put_at.ensures _ _ (sym c.on_base.ensures ∙ w.if-on_base.true) (is_bare e) _ y B
        | then-on_base-via-else-on_base+then-is_name w ↦ previous-bare _ _ _ c.put_at.ensures _ _ (sym c.on_base.ensures ∙ w.if-on_base.false) (is_bare e) (n.1 ∙ (sym (w.is_name.ensures n.0) ∙ w.if-is_name.true)) _ y B
      ];
}

pub returns-then-is_typed-clause-closes_previous : goal.returns-then-is_typed-clause-closes_previous
returns-then-is_typed-clause-closes_previous c = record { close = λ e q ds y g n D B. previous-held _ _ _ _ _ (sym c.on_base.ensures ∙ c.if-on_base.false) (is_bare e) (n.1 ∙ (sym (c.is_name.ensures n.0) ∙ c.if-is_name.false)) (operand_type ds e) (sym (c.is_typed.ensures e q ds g D) ∙ c.if-is_typed.true) y (c.hold.ensures.preceded y (sym c.on_base.ensures ∙ c.if-on_base.false) B) }

pub returns-clause-closes_previous : goal.returns-clause-closes_previous
returns-clause-closes_previous c = record { close = λ e q ds y g n D B. previous-untyped _ _ _ (sym c.on_base.ensures ∙ c.if-on_base.false) (is_bare e) (n.1 ∙ (sym (c.is_name.ensures n.0) ∙ c.if-is_name.false)) (operand_type ds e) (sym (c.is_typed.ensures e q ds g D) ∙ c.if-is_typed.false) }
