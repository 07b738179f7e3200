-- What the code finds, as the options of the definitions.
use Rattle.std.proofs.Math.Option.{Option, none, some}
use Rattle.std.specs.declared.option.Option as code
use Rattle.std.specs.declared.option.Option.TheVariants.{None, Some}

abbrev pub option_of : {A : Type 0} → code.Option A → Option A
option_of (Some t) = some t
option_of None = none
