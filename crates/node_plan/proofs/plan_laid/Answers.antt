-- `node_plan::plan_laid` meets its contract.
-- Assumes nothing.
use native.Mathlib.Omega.{arith}
use mathlib.Core.Path.{refl}
use Rattle.std.proofs.Common.{rules}
use Rattle.plan.proofs.Walk.{sized}
use Rattle.node_plan.proofs.Outcomes.{begun-none, plans-fault, plans-whole, plans-lent}
use Rattle.node_plan.proofs.plan_laid.Goals as goal

pub returns-in_err-equations-clause-plans_node : goal.returns-in_err-equations-clause-plans_node
returns-in_err-equations-clause-plans_node c = λ tys ns node cs N names few room. let P = plans-fault _ _ _ _ (sized c.equations.ensures.still_lent) _ _ c.equations.ensures.walks_equations (begun-none _ _) tys ns node _ cs N.laid (record { few = omega arith; standing = N.standing; typed = N.typed; declares = c.declared_types.ensures.declares node N.end N.laid names few }) N.sited N.many room _ c.in_err-equations.was _ c.from_residual.ensures in plans-lent P (search rules) (search rules) (search rules) (search rules)

pub returns-clause-plans_node : goal.returns-clause-plans_node
returns-clause-plans_node c = λ tys ns node cs N names few room. let P = plans-whole _ _ _ _ (sized c.equations.ensures.still_lent) _ _ c.equations.ensures.walks_equations (begun-none _ _) tys ns node _ cs N.laid (record { few = omega arith; standing = N.standing; typed = N.typed; declares = c.declared_types.ensures.declares node N.end N.laid names few }) N.sited N.many room _ c.in_ok-equations.was _ _ _ _ (search rules) (search rules) (search rules) refl in plans-lent P (search rules) (search rules) (search rules) (search rules)
