-- `Clock::ends_in` meets its contract: base has no last condition; else the last is over the others. Assumes nothing.
use Rattle.std.proofs.Common.{rules}
use Rattle.clock_tables.specs.Value.{value_of}
use Rattle.clock_tables.proofs.ClockLaws.{ends-told}
use Rattle.clock_tables.proofs.clock.Clock.ends_in.Goals as goal

pub returns : goal.returns
returns c = ends-told _ c.args.k (value_of c.args.self) _ _ _ (λ b h. search (rules, h)) c.last.ensures.value c.conditions.ensures.clock c.is_some_and.ensures
