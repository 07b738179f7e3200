use Rattle.clock_tables.proofs.ClockLaws.{base_depth}
use Rattle.clock_tables.proofs.clock.Clock.is_base.Goals as goal

pub returns : goal.returns
returns c = base_depth _ _
