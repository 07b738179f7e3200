-- `first_faults::fault_clocked` meets its contract. Assumes nothing.
use native.Mathlib.Omega.{arith}
use Rattle.first_faults.proofs.Laws.{found-later, found-first}
use Rattle.first_faults.proofs.fault_clocked.Goals as goal

pub returns-then-j-gt0-clause-fault_value : goal.returns-then-j-gt0-clause-fault_value
returns-then-j-gt0-clause-fault_value c = λ i node q k h d u f all st room. found-later i node k _ _ all _ _ (omega (arith, c.if-j-gt0.true)) (rw (c.findings.ensures.words_value, c.findings.ensures.count_value) at c.nth_fault.ensures)

pub returns-clause-fault_value : goal.returns-clause-fault_value
returns-clause-fault_value c = λ i node q k h d u f all st room. found-first i node k _ _ all _ _ _ (omega (arith, c.if-j-gt0.false)) c.err.ensures.value (c.plan_clocked.ensures.found_in i node q k h d u f all st room).fault
