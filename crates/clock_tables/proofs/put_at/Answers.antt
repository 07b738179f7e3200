-- The check finds this alone. It stands here so that an edit is refused by it.
use Rattle.std.proofs.Common.{refl}
use Rattle.clock_tables.proofs.put_at.Goals as goal

pub returns-then-k-list : goal.returns-then-k-list
returns-then-k-list g c = refl
