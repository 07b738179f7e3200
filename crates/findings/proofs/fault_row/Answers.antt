-- Its kind, name and clocks.
use mathlib.Core.Path.{refl}
use borrow.Author.Rules.{rules}
use Rattle.findings.proofs.fault_row.Goals as goal
use Rattle.findings.proofs.fault_row.Goals.{in-UsedElsewhere, in-LeftElsewhere, in-WhenElsewhere, in-ClockNameElsewhere}

pub returns : goal.returns
returns c = elim c.match-fault.branch [
  | in-UsedElsewhere w ↦ rw (w.in-UsedElsewhere.is, w.kind-is) refl
  | in-LeftElsewhere w ↦ search rules
  | in-WhenElsewhere w ↦ search rules
  | in-ClockNameElsewhere w ↦ search rules
]
