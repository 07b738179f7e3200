-- `declock_project::walk_nodes` meets its contract: in the first k nodes no clock is too deep, their first faults are recorded, and where
-- there are none their names and tokens are put. Assumes nothing.
use native.Mathlib.Omega.{arith}
use mathlib.Core.Path.{refl, ◌∙◌}
use Rattle.infer_clocks.proofs.Laws.{ahead-start}
use Rattle.std.proofs.lemmas.Result.{err_from_is_err_and}
use Rattle.first_faults.proofs.Records.{first-start, first_step, nodes-step}
use Rattle.workspace.proofs.Kept.{same-first, same-more}
use Rattle.declock_project.proofs.Walk.{room-still, walk-deep, walk_end}
use Rattle.declock_project.proofs.Nodes.{names-start, tokens-start, names_more, tokens-more, all-put}
use Rattle.declock_project.proofs.walk_nodes.Goals as goal

pub loop-k-init : goal.loop-k-init
loop-k-init c = (same-first _, refl, omega arith, λ i h r. ahead-start i.sheet.nodes, λ i ns h f r. rw c.requires (first-start i ns f _), λ bytes i ns f h r held. names-start f held, λ bytes i ns f h r held free. tokens-start f _)

pub returns-in_err-fault-clause-walks : goal.returns-in_err-fault-clause-walks
returns-in_err-fault-clause-walks c =
    let l = c.loop-k in
    let e = err_from_is_err_and c.from_residual.result c.from_residual.ensures.1 in
    λ i h r. let met = c.in_err-fault.ensures.node_met (room-still l.invariant.0 l.invariant.1 r) in
    rw (e.1, e.2, met.refused_at) (walk-deep i l.k (l.invariant.3 i h r) _ (omega (arith, c.loop-k-test.true, h.nodes.count)) (λ n e. met.deep i n h e) _ _ refl)

pub loop-k-preserved : goal.loop-k-preserved
loop-k-preserved c =
    let l = c.loop-k in
    let few = c.loop-k-test.true in (
      same-more l.invariant.0 c.walk_node.ensures.same_room,
      c.walk_node.auto.holds ∙ l.invariant.1,
      omega (arith, l.invariant.2, c.add_first.ensures.upper_bound),
      λ i h r. nodes-step i l.k (l.invariant.3 i h r) _ (omega (arith, few, h.nodes.count)) (λ n e. (c.in_ok-fault.ensures.node_met (room-still l.invariant.0 l.invariant.1 r)).deep i n h e) refl,
      λ i ns h f r. first_step i ns f _ l.k _ _ _ _ _ _ (omega (arith, few, h.nodes.count)) refl ((c.in_ok-fault.ensures.node_met (room-still l.invariant.0 l.invariant.1 r)).fault i ns h f) (λ lent fs g h e. c.add_first.ensures.by_index lent fs g h (omega (arith, l.invariant.2, few, c.args.named.index.now.nodes.within)) e) (l.invariant.4 i ns h f r),
      λ bytes i ns f h r held. names_more f h l.k few (c.in_ok-fault.ensures.node_put (room-still l.invariant.0 l.invariant.1 r)) (l.invariant.5 bytes i ns f h r held),
      λ bytes i ns f h r held free. tokens-more f h l.k few (c.in_ok-fault.ensures.node_put (room-still l.invariant.0 l.invariant.1 r)) (l.invariant.5 bytes i ns f h r held) _ (l.invariant.6 bytes i ns f h r held) free,
    )

pub returns-clause-walks : goal.returns-clause-walks
returns-clause-walks c =
    let l = c.loop-k in
    λ i h r. walk_end i l.k (l.invariant.3 i h r) _ _ _ (omega (arith, c.loop-k-test.false, h.nodes.count)) (λ ns f. l.invariant.4 i ns h f r)

pub returns-clause-all_put : goal.returns-clause-all_put
returns-clause-all_put c =
    let l = c.loop-k in
    λ bytes i ns h r f held. all-put f l.k (omega (arith, c.loop-k-test.false, h.nodes.count)) (l.invariant.5 bytes i ns f h r held) (l.invariant.6 bytes i ns f h r held)
