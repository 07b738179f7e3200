use Rattle.std.proofs.Common.{[], refl}
use Rattle.definitions.specs.Lists.{bytes}
use Rattle.arguments.proofs.argument.Goals as goal

-- a word that is too long says what the empty one says
pub returns-in-Err-TooLong : goal.returns-in-Err-TooLong
unfolding bytes
returns-in-Err-TooLong g c = ([], refl)
