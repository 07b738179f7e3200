-- `clock_tables::fill_front` meets its contract: with the rest behind them, the first items are filled so far. Assumes nothing.
use Rattle.std.proofs.Common.{◌≡◌, ◌++◌}
use lib.ListN.{length, drop, replicate}
use Rattle.clock_tables.proofs.fill_front.Given as goal

abbrev pub invariant-loop-x : goal.invariant-loop-x
invariant-loop-x g l =
    (l.x-index-end ≡ l.n) × (length l.x-items ≡ l.n) × (l.x-items ++ drop l.n l.fn.list ≡ replicate l.x-index l.item ++ drop l.x-index l.fn.list)
