use mathlib.Core.Path.{refl}
use Rattle.clock_tables.proofs.ClockLaws.{base-at}
use Rattle.clock_tables.proofs.clock.Clock.base.Goals as goal

pub returns : goal.returns
returns c = base-at _ _ refl
