-- `lines::NamedText::put_chains` meets its contract: the lines so far. Assumes nothing.
use Rattle.chain_order.specs.Order.{row_of}
use Rattle.lines.proofs.Laws.{chains-none, chains-more}
use Rattle.lines.proofs.NamedText.put_chains.Goals as goal

pub loop-row-init : goal.loop-row-init
loop-row-init c = chains-none (row_of c.args.ordered.now.rows.now) c.args.ordered.now.order.now _

pub loop-row-preserved : goal.loop-row-preserved
loop-row-preserved c = chains-more (row_of c.args.ordered.now.rows.now) c.args.ordered.now.order.now _ c.loop-row.row-index _ c.loop-row-test.true c.get.ensures c.loop-row.invariant c.put_chain_line.ensures
