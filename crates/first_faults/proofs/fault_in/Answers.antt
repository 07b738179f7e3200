-- `first_faults::fault_in` meets its contract: a node that uses no clocks has no fault. Assumes nothing.
use mathlib.Core.Path.{refl, sym, ap, ◌∙◌}
use Rattle.std.proofs.lemmas.Result.{err_from_is_err_and}
use Rattle.infer_clocks.specs.Clocked.{is_deep}
use Rattle.infer_clocks.proofs.Laws.{deep-clockless}
use Rattle.query.specs.Standing.{ClockedAs}
use Rattle.workspace.proofs.Kept.{plan-kept}
use Rattle.first_faults.proofs.Laws.{none-unclocked, deep-at, deep-unformed, formed-at, all-told}
use Rattle.first_faults.proofs.fault_in.Goals as goal

pub returns-then-not-uses_clocks-clause-deepness : goal.returns-then-not-uses_clocks-clause-deepness
returns-then-not-uses_clocks-clause-deepness c = record { refused_at = tt; deep = λ n q d r. deep-clockless n _ (c.uses_clocks.ensures.of_node n q d) c.if-not-uses_clocks.true }

pub returns-then-not-uses_clocks-clause-fault_value : goal.returns-then-not-uses_clocks-clause-fault_value
returns-then-not-uses_clocks-clause-fault_value c =
    λ i n q k h d e r. none-unclocked i n k _ _ (sym (c.uses_clocks.ensures.of_node n q d) ∙ c.if-not-uses_clocks.true) e refl

pub returns-in_err-told-clause-deepness : goal.returns-in_err-told-clause-deepness
returns-in_err-told-clause-deepness c =
    let e = err_from_is_err_and c.from_residual.result c.from_residual.ensures.1 in
    rw (e.1, e.2) (deep-at _ _ _ _ _ _ _ c.in_err-told.ensures.refused_at (λ n q d r. c.in_err-told.ensures.clocked_as n q d r.clocks))

pub returns-in_err-told-clause-fault_value : goal.returns-in_err-told-clause-fault_value
unfolding ClockedAs
returns-in_err-told-clause-fault_value c = λ i n q k h d e r. absurd (deep-unformed n k (sym (ap is_deep (c.in_err-told.ensures.clocked_as n q d r.clocks).0)) e)

pub returns-clause-deepness : goal.returns-clause-deepness
returns-clause-deepness c = formed-at _ _ _ _ _ _ c.in_ok-told.told _ (λ n q d r. c.in_ok-told.ensures.clocked_as n q d r.clocks)

pub returns-clause-fault_value : goal.returns-clause-fault_value
returns-clause-fault_value c = λ i n q k h d e r.
    let l = c.in_ok-told.ensures.layout_value in
    let all = all-told _ _ _ _ n _ (c.in_ok-told.ensures.clocked_as n q d r.clocks) k e in
    let sited = c.in_ok-told.ensures.sites_told n q k d e r.clocks in
    let u = sym (c.uses_clocks.ensures.of_node n q d) ∙ c.if-not-uses_clocks.false in
    c.fault_clocked.ensures.fault_value i n q k h (rw (sym l) at d) u e all (rw (sym l) at sited) (plan-kept c.clock_laid.ensures.same_room r)
