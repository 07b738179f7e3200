-- `defaults::emit_default` meets its contract: as many definitions down as there are, at most 32, for which the depth is enough.
-- Assumes nothing.
use native.Mathlib.Omega.{arith}
use Rattle.defaults.proofs.Laws.{whole-some}
use Rattle.defaults.proofs.emit_default.Goals as goal

pub returns : goal.returns
returns c = λ types y q e s g d. c.emit_type.ensures types _ 8 y q e s (omega arith) g (whole-some types _ s.count y e d)
