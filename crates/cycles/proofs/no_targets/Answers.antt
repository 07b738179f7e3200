-- `cycles::no_targets` meets its contract: a set without members.
-- Assumes nothing.
use mathlib.Core.Path.{refl}
use Rattle.cycles.proofs.Laws.{no-names}
use Rattle.cycles.proofs.no_targets.Goals as goal

pub returns : goal.returns
returns c = λ types. record { holds = no-names types; own = refl }
