-- A binary operator from its value: what the arm for 6 gives. Assumes nothing.
use Rattle.definitions.specs.Tokens.{binary_of}
use Rattle.definitions.proofs.values.BinOpTryFromU32.try_from.Goals as goal

pub returns-in-6 : goal.returns-in-6
unfolding binary_of
returns-in-6 c = rw c.in-6.is
