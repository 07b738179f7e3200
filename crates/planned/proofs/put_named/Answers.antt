-- `planned::put_named` meets its contract. Assumes nothing.
use Rattle.planned.proofs.put_named.Goals as goal

pub returns : goal.returns
returns c = c.emit_all.ensures
