-- `refusals::put_reason` meets its contract. Assumes nothing.
use Rattle.definitions.specs.Lists.{bytes}
use Rattle.spelling.proofs.Writers.{wrote_then}
use Rattle.refusals.proofs.put_reason.Goals as goal

pub returns : goal.returns
unfolding bytes
returns c = wrote_then c.put_refused.ensures (wrote_then c.put_all.ensures (wrote_then c.put_why.ensures c.put.ensures))
