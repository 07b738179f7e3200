-- `lines::ListedNode::put_faults` meets its contract: with the lines of the faults that are left, those of all are put. Assumes nothing.
use Rattle.lines.proofs.Spelled.{spells_then, spells_none}
use Rattle.lines.proofs.ListedNode.put_faults.Goals as goal

pub loop-found-init : goal.loop-found-init
loop-found-init c = λ w s. rw (c.into_iter-found-iterator.ensures.into_iter_gives, c.faults-found-items.ensures, c.findings.ensures.words_value, c.findings.ensures.count_value) at s

pub loop-found-preserved : goal.loop-found-preserved
loop-found-preserved c = λ w s. c.loop-found.invariant w (rw c.in-Some.ensures.steps (spells_then c.put_fault_line.ensures s))

pub returns : goal.returns
returns c = c.loop-found.invariant _ (rw c.in-None.ensures.steps.0 (spells_none _))
