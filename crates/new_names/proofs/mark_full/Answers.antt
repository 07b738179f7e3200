-- The check finds this alone. It stands here so that an edit is refused by it.
use Rattle.std.proofs.Common.{refl}
use Rattle.new_names.proofs.mark_full.Goals as goal

pub returns-clause-full : goal.returns-clause-full
returns-clause-full c = refl
