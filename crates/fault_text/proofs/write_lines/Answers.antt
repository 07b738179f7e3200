-- `fault_text::write_lines` meets its contract: in the first k nodes no clock is too deep, and the lines of their first faults are put,
-- none longer than a line may be. Assumes nothing.
use Prim.Native.Nat.{ℕ, min}
use mathlib.Core.Path.{refl, subst, ◌∙◌}
use native.Mathlib.Omega.{arith}
use lib.ListN.{take}
use Rattle.definitions.specs.Answer.{first_lines}
use Rattle.spelling.specs.Writing.{Put, farthest}
use Rattle.spelling.proofs.Writing.{put-held}
use Rattle.infer_clocks.proofs.Laws.{ahead-start}
use Rattle.std.proofs.lemmas.Result.{err_from_is_err_and}
use Rattle.first_faults.proofs.Records.{nodes-step, nodes-deep}
use Rattle.workspace.proofs.Kept.{same-first, same-more, plan-kept}
use Rattle.fault_text.proofs.Laws.{lines_start, lines_step, lines_end, lines-deep}
use Rattle.fault_text.proofs.write_lines.Goals as goal

pub loop-k-init : goal.loop-k-init
loop-k-init c = (same-first _, omega (arith, c.requires.at_value), refl, λ i h r. ahead-start i.sheet.nodes, λ i ns h f s r. lines_start i ns _)

pub returns-in_err-fault-clause-lines_stand : goal.returns-in_err-fault-clause-lines_stand
returns-in_err-fault-clause-lines_stand c =
    let l = c.loop-k in
    let x = err_from_is_err_and c.from_residual.result c.from_residual.ensures.1 in
    λ i h e r. let met = c.in_err-fault.ensures.node_met (plan-kept l.invariant.0 r) in
    rw (x.1, x.2, met.refused_at) (lines-deep i l.k _ _ (nodes-deep i l.k (l.invariant.3 i h r) _ (omega (arith, c.loop-k-test.true, h.nodes.count)) (λ n f. met.deep i n h f) refl))

pub loop-k-preserved : goal.loop-k-preserved
loop-k-preserved c =
    let l = c.loop-k in
    let s = l.invariant.0 in
    let few = c.loop-k-test.true in (
      same-more s c.first_at.ensures.same_room,
      omega (arith, l.invariant.1, c.put_found.ensures.upper_bound),
      c.put_found.ensures.wrote.same ∙ l.invariant.2,
      λ i h r. nodes-step i l.k (l.invariant.3 i h r) _ (omega (arith, few, h.nodes.count)) (λ n e. (c.in_ok-fault.ensures.node_met (plan-kept s r)).deep i n h e) refl,
      λ i ns h f e r.
          lines_step i ns f _ e l.k _ (omega (arith, few, h.nodes.count)) ((c.in_ok-fault.ensures.node_met (plan-kept s r)).fault i ns h f) (l.invariant.4 i ns h f e r) c.put_found.ensures.wrote,
    )

pub returns-clause-lines_stand : goal.returns-clause-lines_stand
returns-clause-lines_stand c =
    let l = c.loop-k in
    λ i h e r. lines_end i l.k _ _ _ (l.invariant.3 i h r) (omega (arith, c.loop-k-test.false, h.nodes.count)) (omega (arith, l.auto.k-end, c.args.index.now.nodes.within)) (omega (arith, c.place.ensures, l.invariant.1)) (λ ns f. put-held c.place.ensures refl (subst (λ (at : ℕ). Put (first_lines i (take l.k ns)) at c.args.text.now.out.now (min l.text.at farthest) l.text.out.now) c.requires.at_value (l.invariant.4 i ns h f e r).put))
