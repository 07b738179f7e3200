-- A step of a walk over the clocks of equations gives that in the row of the one that stands there. Assumes nothing.
use Rattle.std.proofs.Common.{refl}
use native.Mathlib.Omega.{arith}
use Rattle.lines.specs.Walk.{GivesClock}
use Rattle.lines.proofs.equation_clocks.EquationClocksIterator.next.Goals as goal

pub returns-in_err-self-clause-steps : goal.returns-in_err-self-clause-steps
unfolding GivesClock
returns-in_err-self-clause-steps c = rw c.from_residual.ensures (omega (arith, c.in_err-self.ensures), refl)

pub returns-clause-steps : goal.returns-clause-steps
unfolding GivesClock
returns-clause-steps c = (omega (arith, c.in_ok-self.ensures), refl, refl, c.get-clock.ensures, c.equation_end-self.ensures)
