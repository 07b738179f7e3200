-- A primitive type from its place: what the arm for 1 gives. Assumes nothing.
use Rattle.definitions.specs.Tokens.{primitive_of}
use Rattle.definitions.proofs.values.PrimitiveTryFromU8.try_from.Goals as goal

pub returns-in-1 : goal.returns-in-1
unfolding primitive_of
returns-in-1 c = rw c.in-1.is
