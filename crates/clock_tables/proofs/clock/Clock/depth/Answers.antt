use native.Mathlib.Omega.{arith}
use Rattle.clock_tables.specs.Value.{capped}
use Rattle.clock_tables.proofs.ClockLaws.{depth-at}
use Rattle.clock_tables.proofs.clock.Clock.depth.Goals as goal

pub returns-clause-value_2 : goal.returns-clause-value_2
returns-clause-value_2 c = omega (arith, c.capped.ensures, depth-at c.args.self.conditions (capped c.args.self.depth))
