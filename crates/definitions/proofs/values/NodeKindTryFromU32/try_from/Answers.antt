-- A node's kind from its value: what the arm for 1 gives. Assumes nothing.
use Rattle.definitions.specs.Tokens.{kind_of}
use Rattle.definitions.proofs.values.NodeKindTryFromU32.try_from.Goals as goal

pub returns-in-1 : goal.returns-in-1
unfolding kind_of
returns-in-1 c = rw c.in-1.is
