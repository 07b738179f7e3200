-- `declock::put_declared` meets its contract: one part after the other.
-- Assumes nothing.
use Rattle.declock.proofs.Written.{flags-tabled, firsts-tabled, hold-ids, ready-holds, holds-many, ready-front}
use Rattle.declock.proofs.put_declared.Goals as goal

pub returns : goal.returns
returns c = λ names h ids q. ready-front names h ids q _ c.count_of-more.ensures (c.put_front.ensures _ _ _ h.grounds.laid) (c.put_locals.ensures _ _ _ h.grounds.laid) (c.put_declarations.ensures ids.flag (flags-tabled names h ids q)) (c.put_declarations-2.ensures ids.first (firsts-tabled names h ids q)) (c.put_hold_declarations.ensures h.writer _ _ ids (holds-many names h ids q) (ready-holds names h ids q) h.grounds.declares (hold-ids names h ids q))
