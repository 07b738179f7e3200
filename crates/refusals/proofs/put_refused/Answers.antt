-- `refusals::put_refused` meets its contract. Assumes nothing.
use Rattle.definitions.specs.Lists.{bytes}
use Rattle.spelling.proofs.Writers.{wrote_then}
use Rattle.refusals.proofs.put_refused.Goals as goal

pub returns : goal.returns
unfolding bytes
returns c = wrote_then c.put_all.ensures (wrote_then (rw c.number.ensures at c.put_number.ensures) (rw c.place.ensures at c.put_number-2.ensures))
