-- `lines::lend_put` meets its contract: what is put was measured. Assumes nothing.
use Rattle.lines.proofs.Giving.{gives-written}
use Rattle.lines.proofs.lend_put.Goals as goal

pub returns-then-size-out : goal.returns-then-size-out
returns-then-size-out g c = λ text short P. gives-written text _ _ short (P _ _ _ c.put-size.ensures) c.if-size-out.true (P _ _ _ c.put.ensures)
