-- `query::write_rows` meets its contract: the first i clocks are written. Assumes nothing.
use Rattle.chain_order.specs.Order.{row_of, ordered_clocks}
use Rattle.query.proofs.Entries.{clocks-none, row-entered, rows-entered}
use Rattle.query.proofs.write_rows.Goals as goal

pub loop-i-init : goal.loop-i-init
loop-i-init c = clocks-none (ordered_clocks c.args.ordered.now) _

pub loop-i-preserved : goal.loop-i-preserved
loop-i-preserved c = row-entered (row_of c.args.ordered.now.rows.now) c.args.ordered.now.order.now _ c.loop-i.i _ _ _ c.loop-i-test.true c.get.ensures c.put_row.ensures.words c.put_row.ensures.past c.loop-i.invariant

pub returns : goal.returns
returns c = rows-entered (row_of c.args.ordered.now.rows.now) c.args.ordered.now.order.now _ c.loop-i.i _ c.loop-i-test.false c.loop-i.invariant
