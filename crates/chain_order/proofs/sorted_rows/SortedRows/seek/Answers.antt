-- `chain_order::sorted_rows::SortedRows::seek` meets its contract. The row goes past the first `low` rows and before row `high`. Assumes nothing.
use Prim.Native.Nat.{◌-◌, ◌+◌, ◌/◌}
use native.Mathlib.Omega.{arith}
use Rattle.chain_order.proofs.Halves.{first-half, last-half, is-there, goes-here}
use Rattle.chain_order.proofs.sorted_rows.SortedRows.seek.Goals as goal

pub loop-low-preserved-in-Less : goal.loop-low-preserved-in-Less
loop-low-preserved-in-Less c =
    let l = c.loop-low in
    last-half l.invariant c.args.self.now.sorted (l.low + (l.high - l.low) / 2) (omega arith) (omega (arith, c.loop-low-test.true)) c.row_order.ensures c.in-Less.is

pub loop-low-preserved : goal.loop-low-preserved
loop-low-preserved c =
    let l = c.loop-low in
    first-half l.invariant c.args.self.now.sorted (l.low + (l.high - l.low) / 2) (omega arith) (omega (arith, c.loop-low-test.true)) c.row_order.ensures c.in-Greater.is

pub returns-in-Equal : goal.returns-in-Equal
returns-in-Equal c =
    let l = c.loop-low in
    is-there l.invariant c.args.self.now.sorted (l.low + (l.high - l.low) / 2) (omega arith) (omega (arith, c.loop-low-test.true)) c.row_order.ensures c.in-Equal.is

pub returns : goal.returns
returns c = goes-here c.loop-low.invariant c.loop-low-test.false
