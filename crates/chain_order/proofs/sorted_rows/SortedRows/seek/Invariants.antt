-- `chain_order::sorted_rows::SortedRows::seek` meets its contract. The row goes past the first `low` rows and before row `high`. Assumes nothing.
use Prim.Native.Nat.{◌-◌}
use Rattle.spelling.specs.Places.{letters_in}
use Rattle.chain_order.specs.Order.{row_of}
use Rattle.chain_order.proofs.Halves.{Between}
use Rattle.chain_order.proofs.sorted_rows.SortedRows.seek.Given as goal

abbrev pub invariant-loop-low : goal.invariant-loop-low
invariant-loop-low l = Between (letters_in l.self.named.spelling) l.self.named.rows.now l.self.order.now l.self.count (row_of l.self.named.rows.now l.x) l.low l.high

abbrev pub decreases-loop-low : goal.decreases-loop-low
decreases-loop-low l = l.high - l.low
