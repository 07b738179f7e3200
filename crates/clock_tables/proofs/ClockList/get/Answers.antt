-- The clock in the words' row.
use Rattle.clock_tables.proofs.ClockList.get.Goals as goal

pub returns : goal.returns
returns c = c.get.ensures
