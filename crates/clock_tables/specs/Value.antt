-- The clock that a struct stands for.
use Rattle.std.specs.Prelude.{ℕ, zero, suc, ◌-◌, List, get_or, Option, Some, None, Result, Ok, Err}
use Rattle.std.proofs.Math.Option as maybe
use Rattle.std.proofs.Math.Option.{none, some}
use Rattle.definitions.specs.declared.Test.{Test}
use Rattle.definitions.specs.declared.Condition.{Condition}
use Rattle.definitions.specs.Clock as clock
use Rattle.definitions.specs.Clock.{base, ◌↓◌}
use Rattle.definitions.specs.InferClocks as rules
use Rattle.definitions.specs.InferClocks.{deep, formed}
use Rattle.clock_tables.specs.declared.clock.Clock.{Clock}
use Rattle.clock_tables.specs.declared.TooDeep.{TooDeep}

-- the condition at i
abbrev pub at : List Condition → ℕ → Condition
at ks i = get_or ks i (record { name = 0; test = Test.On })

-- the clock of the first d conditions
unfoldable pub clock_at : List Condition → ℕ → clock.Clock
clock_at ks zero = base
clock_at ks (suc d) = clock_at ks d ↓ at ks d

-- the smaller of a number and eight
abbrev pub capped : ℕ → ℕ
capped d = 8 - (8 - d)

-- a struct's clock
abbrev pub value_of : Clock → clock.Clock
value_of c = clock_at c.conditions (capped c.depth)

-- a struct's clock, where there is one
abbrev pub option_of : Option Clock → maybe.Option clock.Clock
option_of None = none
option_of (Some c) = some (value_of c)

-- a struct's clock, unless it is too deep
abbrev pub reached_of : Result Clock TooDeep → rules.Natural
reached_of (Ok c) = formed (some (value_of c))
reached_of (Err e) = deep

-- a struct's clock or none, unless it is too deep
abbrev pub natural_of : Result (Option Clock) TooDeep → rules.Natural
natural_of (Ok o) = formed (option_of o)
natural_of (Err e) = deep
