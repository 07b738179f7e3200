-- `query::write_rows` meets its contract: the first i clocks are written. Assumes nothing.
use mathlib.Core.Path.{◌≡◌}
use lib.ListN.{take}
use Rattle.chain_order.specs.Order.{ordered_clocks}
use Rattle.query.specs.Words.{clocks_over}
use Rattle.query.proofs.write_rows.Given as goal

abbrev pub invariant-loop-i : goal.invariant-loop-i
invariant-loop-i l = l.list ≡ clocks_over (take l.i (ordered_clocks l.ordered)) l.initial.list
