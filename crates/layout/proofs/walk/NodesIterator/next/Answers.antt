-- A step of a walk over nodes gives the one that stands where the last ended. Assumes nothing.
use Rattle.std.proofs.Common.{refl}
use native.Mathlib.Omega.{arith}
use Rattle.layout.specs.Walk.{GivesNode}
use Rattle.layout.proofs.walk.NodesIterator.next.Goals as goal

pub returns-in_err-self-clause-steps : goal.returns-in_err-self-clause-steps
unfolding GivesNode
returns-in_err-self-clause-steps c = rw c.from_residual.ensures (omega (arith, c.in_err-self.ensures), refl)

pub returns-clause-steps : goal.returns-clause-steps
unfolding GivesNode
returns-clause-steps c = (omega (arith, c.in_ok-self.ensures), refl, refl, c.node_at-node.ensures)
