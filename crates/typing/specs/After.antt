-- The shape that an answer says, and the node that a shape calls.
use Rattle.std.specs.Prelude.{ℕ}
use Rattle.definitions.specs.Declock.{Shape, bare, other, calls}
use Rattle.typing.specs.declared.After.{After}
use Rattle.std.specs.declared.option.Option as code
use Rattle.std.specs.declared.option.Option.TheVariants.{None, Some}

-- the code's answer as a shape of the definitions
abbrev pub after_of : After → Shape
after_of After.Bare = bare
after_of After.Other = other
after_of (After.Calls f) = calls f

-- the node that is called
abbrev pub called_by : Shape → code.Option ℕ
called_by bare = None
called_by other = None
called_by (calls f) = Some f
