-- Its name and clocks.
use mathlib.Core.Path.{refl}
use Rattle.findings.proofs.ClockFaultFromRow.from.Goals as goal

pub returns-in-2 : goal.returns-in-2
returns-in-2 c = rw c.in-2.is refl
