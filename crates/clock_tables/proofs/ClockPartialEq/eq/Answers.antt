use mathlib.Core.Path.{ap₂, ◌∙◌}
use Rattle.definitions.specs.Clock.{same_clock}
use Rattle.clock_tables.proofs.ClockLaws.{same_listed}
use Rattle.clock_tables.proofs.ClockPartialEq.eq.Goals as goal

pub returns : goal.returns
returns c = c.eq.ensures ∙ (same_listed c.conditions.result.now c.conditions-2.result.now ∙ ap₂ same_clock c.conditions.ensures.clock c.conditions-2.ensures.clock)
