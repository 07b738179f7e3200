use Rattle.clock_tables.proofs.ClockLaws.{parent_at}
use Rattle.clock_tables.proofs.clock.Clock.parent.Goals as goal

pub returns : goal.returns
returns c = rw (c.saturating_sub.ensures, c.depth.ensures.value) (parent_at c.args.self.conditions c.args.self.depth)
