-- A start value ends where it was read.
use Rattle.operands.proofs.Laws.{iterated-started}
use Rattle.operands.proofs.iterated.Goals as goal

pub returns-else-n-eq0 : goal.returns-else-n-eq0
returns-else-n-eq0 c = iterated-started _ _ _ _ c.read_count.ensures _ _ _ c.in-Ok.is c.if-n-eq0.false c.behind_start.ensures
