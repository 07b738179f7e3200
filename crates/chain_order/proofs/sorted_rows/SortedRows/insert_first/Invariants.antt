-- `chain_order::sorted_rows::SortedRows::insert_first` meets its contract: the rows from i on stand in chain order. Assumes nothing.
use Prim.Native.Nat.{◌≤◌, ◌-◌}
use mathlib.Core.Path.{◌≡◌}
use lib.ListN.{length}
use Rattle.definitions.specs.Clock.{in_chain_order}
use Rattle.clock_tables.specs.Rows.{clocks_from}
use Rattle.spelling.specs.Places.{letters_in}
use Rattle.chain_order.specs.Order.{row_of, picked, FirstBelow}
use Rattle.chain_order.proofs.sorted_rows.SortedRows.insert_first.Given as goal

abbrev pub invariant-loop-i : goal.invariant-loop-i
invariant-loop-i l =
    let named = l.initial.self.named in
    (l.self.named ≡ named) × (l.self.order.ghost_name ≡ l.initial.self.order.ghost_name) × (length l.self.order.now ≡ length l.initial.self.order.now) × (l.self.count ≤ l.n - l.i)
    × (picked (row_of named.rows.now) l.self.order.now 0 l.self.count ≡ in_chain_order (letters_in named.spelling) (clocks_from named.rows.now l.i (l.n - l.i))) × FirstBelow l.self.order.now l.self.count l.n
