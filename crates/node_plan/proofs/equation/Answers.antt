-- `node_plan::equation` meets its contract.
-- Assumes nothing.
use mathlib.Core.Path.{sym, ap, ◌∙◌}
use Rattle.typing.specs.After.{called_by}
use Rattle.plan.proofs.Walk.{passes, sized}
use Rattle.node_plan.specs.Noted.{told_of}
use Rattle.node_plan.proofs.Lefts.{fails}
use Rattle.node_plan.proofs.Ends.{equation-stopped, equation-base, equation-met, equation-flagged}
use Rattle.node_plan.proofs.equation.Goals as goal

pub returns-in_err-end-clause-walks_equation : goal.returns-in_err-end-clause-walks_equation
returns-in_err-end-clause-walks_equation c = equation-stopped _ _ c.args.planning.now.index.now.source.same_length _ _ _ _ _ c.names_at-left.ensures c.expr.ensures.walks _ _ c.in_err-end.was (passes _ _ _ c.from_residual.ensures c.in_err-end.was)

pub returns-then-on_base-clause-walks_equation : goal.returns-then-on_base-clause-walks_equation
returns-then-on_base-clause-walks_equation c = equation-base _ _ c.args.planning.now.index.now.source.same_length _ _ _ _ _ c.names_at-left.ensures c.expr.ensures.walks _ c.in_ok-end.was (sized c.expr.ensures.still_lent) (sym c.on_base.ensures ∙ c.if-on_base.true) _ c.put_at.ensures

pub returns-in_err-flagged_fault-clause-walks_equation : goal.returns-in_err-flagged_fault-clause-walks_equation
returns-in_err-flagged_fault-clause-walks_equation c = equation-met _ _ c.args.planning.now.index.now.source.same_length _ _ _ _ _ c.names_at-left.ensures c.expr.ensures.walks _ c.in_ok-end.was (sized c.expr.ensures.still_lent) _ c.get-c.ensures (sym c.on_base.ensures ∙ c.if-on_base.false) _ (λ e q types ns node g s. c.called-called.ensures ∙ ap called_by (c.shape_after.ensures e q types ns node g s)) _ c.flagged_fault.ensures _ _ (fails _ _ c.from_residual-in_err-flagged_fault.ensures) (ap told_of c.in_err-flagged_fault.was)

pub returns-clause-walks_equation : goal.returns-clause-walks_equation
returns-clause-walks_equation c = equation-flagged _ _ c.args.planning.now.index.now.source.same_length _ _ _ _ _ c.names_at-left.ensures c.expr.ensures.walks _ c.in_ok-end.was (sized c.expr.ensures.still_lent) _ c.get-c.ensures (sym c.on_base.ensures ∙ c.if-on_base.false) _ (λ e q types ns node g s. c.called-called.ensures ∙ ap called_by (c.shape_after.ensures e q types ns node g s)) _ c.flagged_fault.ensures (ap told_of c.in_ok-flagged_fault.was) _ c.gates_right-gated.ensures _ c.flag_equation.ensures.still_lent.flags-long c.flag_equation.ensures.flagged
