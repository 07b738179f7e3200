-- `declock::put_body` meets its contract: one part after the other.
-- Assumes nothing.
use mathlib.Core.Path.{refl}
use Rattle.declock.proofs.Written.{flags-tabled, firsts-tabled, hold-ids, condact-id, ready-holds, ready-equations, ready-faultless, holds-many, ready-body}
use Rattle.declock.proofs.put_body.Goals as goal

pub returns : goal.returns
returns c = λ names h ids q. ready-body names h ids q _ refl c.count_of-all.ensures c.emit.ensures (c.put_flag_equations.ensures ids (flags-tabled names h ids q)) (c.put_first_equations.ensures ids (firsts-tabled names h ids q) (flags-tabled names h ids q)) (c.put_hold_equations.ensures h.writer _ ids (holds-many names h ids q) h.grounds.stands (ready-holds names h ids q) (hold-ids names h ids q)) (c.old_equations.ensures h.writer ids _ h.equations _ h.grounds (condact-id names h ids q) (ready-faultless names h ids q) h.many (ready-equations names h ids q))
