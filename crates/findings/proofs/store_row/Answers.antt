-- A row is its four words and its two clocks.

use Rattle.findings.proofs.Laws.{row-stored}
use Rattle.findings.proofs.store_row.Goals as goal

pub returns-clause-b_after : goal.returns-clause-b_after
returns-clause-b_after c = (row-stored c.args.t.now c.args.b _ _ _ _ _ _ _ _ c.requires c.store.ensures.b_after c.store.ensures.by_index c.store-2.ensures.b_after c.store-2.ensures.by_index).0
