-- `declock_project::walk_clocked` meets its contract: what has a clock too deep or a fault is not written. Assumes nothing.
use mathlib.Core.Path.{sym, ap, ◌∙◌}
use Rattle.std.proofs.lemmas.Result.{err_from_is_err_and}
use Rattle.workspace.proofs.Kept.{plan-kept}
use Rattle.node_plan.specs.Outcomes.{met_by}
use Rattle.first_faults.proofs.Laws.{deep-unformed}
use Rattle.declock_project.proofs.Nodes.{never-put, full_put, deep-unclean, unclean, plan-put}
use Rattle.declock_project.proofs.walk_clocked.Goals as goal

pub returns-in_err-counts-clause-deepness : goal.returns-in_err-counts-clause-deepness
returns-in_err-counts-clause-deepness c =
    let e = err_from_is_err_and c.from_residual.result c.from_residual.ensures.1 in
    let d = c.in_err-counts.ensures.deepness in
    rw (e.1, e.2) (record { refused_at = d.refused_at; deep = d.deep })

pub returns-in-Err-clause-deepness : goal.returns-in-Err-clause-deepness
returns-in-Err-clause-deepness c = record { refused_at = tt; deep = c.in_ok-counts.ensures.deepness.deep }

pub returns-then-sheet-clause-deepness : goal.returns-then-sheet-clause-deepness
returns-then-sheet-clause-deepness c = record { refused_at = tt; deep = c.in_ok-counts.ensures.deepness.deep }

pub returns-then-has_rows-clause-deepness : goal.returns-then-has_rows-clause-deepness
returns-then-has_rows-clause-deepness c = record { refused_at = tt; deep = c.in_ok-counts.ensures.deepness.deep }

pub returns-clause-deepness : goal.returns-clause-deepness
returns-clause-deepness c = record { refused_at = tt; deep = c.in_ok-counts.ensures.deepness.deep }

pub returns-in_err-counts-clause-laid_put : goal.returns-in_err-counts-clause-laid_put
returns-in_err-counts-clause-laid_put c = λ r. never-put (λ i n h u. deep-unclean n (c.in_err-counts.ensures.deepness.deep n.node _ u.laid r.plans) u.clean.forms)

pub returns-in_err-counts-clause-fault_value : goal.returns-in_err-counts-clause-fault_value
returns-in_err-counts-clause-fault_value c = λ i n q k h d u f r. absurd (deep-unformed n k (c.in_err-counts.ensures.deepness.deep n q d r.plans) f)

pub returns-in-Err-clause-laid_put : goal.returns-in-Err-clause-laid_put
returns-in-Err-clause-laid_put c = λ r. never-put (λ i n h u. unclean i n _ (sym (ap met_by c.in-Err.is) ∙ (c.in_ok-counts.ensures.found_in i n.node _ n.clocking h u.laid u.uses u.clean.forms r.plans).fault) u.clean.clean)

pub returns-then-sheet-clause-laid_put : goal.returns-then-sheet-clause-laid_put
returns-then-sheet-clause-laid_put c = λ r. full_put c.if-sheet.true

pub returns-then-has_rows-clause-laid_put : goal.returns-then-has_rows-clause-laid_put
returns-then-has_rows-clause-laid_put c = λ r.
    let rooms = c.has_rows.ensures c.if-has_rows.true in
    plan-put _ c.if-sheet.false c.plan_in-node.ensures
    (record {
      planned = λ i n h u. (c.in_ok-counts.ensures.found_in i n.node _ n.clocking h u.laid u.uses u.clean.forms r.plans).planned _ c.in-Ok.is;
      flag-room = rooms.0;
      first-room = rooms.1;
      hold-room = c.laid_found.auto.holds ∙ r.hold-room;
    }) c.write_planned.ensures.names_held c.write_planned.ensures.next_after

pub returns-clause-laid_put : goal.returns-clause-laid_put
returns-clause-laid_put c = λ r. c.write_wide.ensures.laid_put c.if-sheet.false (record {
  sited = λ i n h u. (c.in_ok-counts.ensures.found_in i n.node _ n.clocking h u.laid u.uses u.clean.forms r.plans).sited u.clean.clean;
  few-tokens = r.plans.few-tokens;
  typed = (plan-kept c.laid_found.ensures.same_room r.plans).typed;
  noted = (plan-kept c.laid_found.ensures.same_room r.plans).planned;
  hold-room = c.laid_found.auto.holds ∙ r.hold-room;
})
