-- `spelling::TakenNames::is_free` meets its contract. Assumes nothing.
use Rattle.spelling.proofs.Free.{free-told}
use Rattle.spelling.proofs.TakenNames.is_free.Goals as goal

pub returns : goal.returns
returns c = free-told _ _ c.args.number _ c.spell.ensures.value c.has.ensures
