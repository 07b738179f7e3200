use mathlib.Core.Path.{ap}
use mathlib.Core.Bool.{not}
use lib.Dec.{eqb}
use Rattle.clock_tables.proofs.is_assigned.Goals as goal

pub returns : goal.returns
returns c = ap (λ w. not (eqb w 0)) c.word_at.ensures
