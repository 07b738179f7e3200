-- The ids of clocks' flags beside the rows of the clocks.
use Rattle.std.specs.Prelude.{ℕ, ◌*◌, ◌≤◌, ◌<◌, ◌≡◌, List, length, get_or}
use Rattle.definitions.specs.Clock.{Clock}
use Rattle.definitions.specs.Declock.{clock_place}
use Rattle.clock_tables.specs.Rows.{clocks_in}
use Rattle.chain_order.specs.Order.{row_of, picked}
use Rattle.declock.specs.declared.Flags.{Flags}

-- the clocks with flags, in order of need, and in chain order
abbrev pub flagged_clocks : Flags → List Clock
flagged_clocks f = clocks_in f.clocks.words.now f.clocks.count

abbrev pub ordered_clocks : Flags → List Clock
ordered_clocks f = picked (row_of f.clocks.words.now) f.names.now.order 0 f.names.now.ordered

-- the id of a clock's flag stands at the clock's place, and that of a row in the order in the row; the order has a place for each row
pub record FlagIds (f : Flags) (id : Clock → ℕ) : Type 0 where
  pub room : 17 * f.clocks.count ≤ length f.clocks.words.now
  pub few : f.names.now.ordered ≤ 1024
  pub stands : (c : Clock) → id c ≡ get_or f.ids.now (clock_place c (flagged_clocks f)) 0
  pub own : (i : ℕ) → i < f.names.now.ordered → clock_place (row_of f.clocks.words.now (get_or f.names.now.order i 0)) (flagged_clocks f) ≡ get_or f.names.now.order i 0
