-- A count that is read leaves room for one more.
use Rattle.operands.proofs.Laws.{start_fits}
use Rattle.operands.proofs.behind_start.Goals as goal

pub overflow_add-result : goal.overflow_add-result
overflow_add-result c = start_fits _ _ _ _ _ c.read_count.ensures c.in-Ok.is
