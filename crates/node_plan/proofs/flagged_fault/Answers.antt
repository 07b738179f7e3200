-- `node_plan::flagged_fault` meets its contract.
-- Assumes nothing.
use Rattle.node_plan.proofs.Lefts.{flagged-one, flagged-several, given}
use Rattle.node_plan.proofs.flagged_fault.Goals.{then-left-ne1+in_ok-f+else-f-planning, else-left-ne1}
use Rattle.node_plan.proofs.flagged_fault.Goals as goal

pub returns : goal.returns
returns c = λ xs u types l node v sp k.
    let h = c.lefts_fault.ensures xs types l node sp k in
    elim c.if-left-ne1.branch [
      | then-left-ne1+in_ok-f+else-f-planning w ↦ flagged-several types l node _ xs _ sp.many _ h w.if-left-ne1.true u _ v _ (given _ _ _ w.ok_or.ensures.value _ w.in_ok-f.was) w.if-f-planning.false
      | else-left-ne1 w ↦ flagged-one types l node _ xs _ sp.many _ h w.if-left-ne1.false u
    ]
