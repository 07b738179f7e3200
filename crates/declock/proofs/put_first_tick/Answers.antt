-- `declock::put_first_tick` meets its contract: one token after the other. Assumes nothing.
use Rattle.declock.proofs.FlagsLaws.{first-tick}
use Rattle.declock.proofs.put_first_tick.Goals as goal

pub returns : goal.returns
returns c = λ i k u v. first-tick i k _ _ _ _ u v c.emit_all.ensures
