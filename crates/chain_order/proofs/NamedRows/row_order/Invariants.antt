-- `chain_order::NamedRows::row_order` meets its contract. The conditions before i are alike. Assumes nothing.
use Prim.Native.Nat.{◌+◌, ◌*◌}
use mathlib.Core.Path.{◌≡◌}
use Rattle.clock_tables.specs.Flat.{depth_in, conditions_from}
use Rattle.spelling.specs.Places.{letters_in}
use Rattle.chain_order.proofs.Laws.{Decides}
use Rattle.chain_order.proofs.NamedRows.row_order.Given as goal

abbrev pub invariant-loop-i : goal.invariant-loop-i
invariant-loop-i l = (l.d ≡ depth_in l.self.rows.now (17 * l.x)) × (l.e ≡ depth_in l.self.rows.now (17 * l.y)) × Decides (letters_in l.self.spelling) (conditions_from l.self.rows.now (17 * l.x + 1) 8) (conditions_from l.self.rows.now (17 * l.y + 1) 8) (depth_in l.self.rows.now (17 * l.x)) (depth_in l.self.rows.now (17 * l.y)) l.i
