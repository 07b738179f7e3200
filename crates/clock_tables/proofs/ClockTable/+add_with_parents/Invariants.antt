use Rattle.definitions.specs.Clock.{depth}
use Rattle.clock_tables.specs.Value.{value_of}
use Rattle.clock_tables.proofs.ClockTable.+add_with_parents.Given as goal

abbrev pub decreases-add_with_parents : goal.decreases-add_with_parents
decreases-add_with_parents l = depth (value_of l.c)
