-- `node_plan::equations` meets its contract.
-- Assumes nothing.
use mathlib.Core.Path.{refl}
use native.Mathlib.Omega.{arith}
use Rattle.std.proofs.Common.{rules}
use Rattle.std.proofs.lemmas.Result.{err_from_is_err_and}
use Rattle.findings.proofs.Laws.{ok-told}
use Rattle.plan.proofs.Walk.{sized, still-then}
use Rattle.node_plan.proofs.Noting.{equations-none, equations-met, equations-step, err-told}
use Rattle.findings.specs.declared.Found.{Found}
use Rattle.node_plan.proofs.equations.Goals as goal

pub returns-in_err-place-clause-walks_equations : goal.returns-in_err-place-clause-walks_equations
returns-in_err-place-clause-walks_equations c =
    let e = err_from_is_err_and c.from_residual.result c.from_residual.ensures.1 in
    let d = err-told _ _ _ c.in_err-place.ensures.variant c.in_err-place.ensures.cases in
    rw (e.1, e.2) (c.loop-i.invariant.1 _ _ (equations-met _ _ _ _ _ _ c.equation.ensures.walks_equation _ _ (omega arith) d.0 d.1 _ (search (rules, d.2))))

pub loop-i-preserved : goal.loop-i-preserved
loop-i-preserved c = (still-then c.loop-i.invariant.0 c.equation.ensures.still_lent, λ s'' r h. c.loop-i.invariant.1 s'' r (equations-step _ _ _ _ _ _ c.equation.ensures.walks_equation _ (ok-told Found _ _ _ c.in_ok-place.ensures.variant c.in_ok-place.ensures.cases) s'' r (sized c.equation.ensures.still_lent) _ _ (omega arith) _ _ (omega arith) refl h))

pub returns-clause-walks_equations : goal.returns-clause-walks_equations
returns-clause-walks_equations c = c.loop-i.invariant.1 _ _ (equations-none _ _ _ _ _ _ (omega arith))
