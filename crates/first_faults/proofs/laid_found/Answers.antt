-- `first_faults::laid_found` meets its contract. Assumes nothing.
use mathlib.Core.Path.{sym}
use Rattle.std.proofs.lemmas.Result.{err_from_is_err_and}
use Rattle.workspace.proofs.Kept.{plan-kept}
use Rattle.first_faults.proofs.Laws.{deep-at, formed-at, all-told}
use Rattle.first_faults.proofs.laid_found.Goals as goal

pub returns-in_err-told-clause-deepness : goal.returns-in_err-told-clause-deepness
returns-in_err-told-clause-deepness c =
    let e = err_from_is_err_and c.from_residual.result c.from_residual.ensures.1 in
    rw (e.1, e.2) (deep-at _ _ _ _ _ _ _ c.in_err-told.ensures.refused_at (λ n q d r. c.in_err-told.ensures.clocked_as n q d r.clocks))

pub returns-clause-deepness : goal.returns-clause-deepness
returns-clause-deepness c = formed-at _ _ _ _ _ _ c.in_ok-told.told _ (λ n q d r. c.in_ok-told.ensures.clocked_as n q d r.clocks)

pub returns-clause-found_in : goal.returns-clause-found_in
returns-clause-found_in c = λ i n q k h d u f r.
    let e = c.in_ok-told.ensures.layout_value in
    let all = all-told _ _ _ _ n _ (c.in_ok-told.ensures.clocked_as n q d r.clocks) k f in
    let sited = c.in_ok-told.ensures.sites_told n q k d f r.clocks in
    rw e at (c.plan_clocked.ensures.found_in i n q k h (rw (sym e) at d) u f all (rw (sym e) at sited) (plan-kept c.clock_laid.ensures.same_room r))
