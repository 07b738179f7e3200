-- `planned::part_end` meets its contract: the end that was found lies behind the place.
-- Assumes nothing.
use native.Mathlib.Omega.{arith}
use Rattle.layout.proofs.Owed.{owed-on}
use Rattle.planned.proofs.part_end.Goals as goal

pub returns-clause-by_index : goal.returns-clause-by_index
returns-clause-by_index c = λ q o. omega (arith, c.max.ensures, c.past.ensures q o, owed-on o)
