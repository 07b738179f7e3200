-- What a call does to a table of clocks that is built.
use Rattle.std.specs.Prelude.{◌≡◌, List, length}
use Rattle.definitions.specs.Clock.{Clock}
use Rattle.clock_tables.specs.declared.ClockTable.{ClockTable}
use Rattle.clock_tables.specs.Rows.{RowsHold}

-- t' has the words of t, as many as before, and holds what f makes of the clocks that t held
pub record Grown (f : List Clock → List Clock) (t t' : ClockTable) : Type 0 where
  pub same_reference : t'.words.ghost_name ≡ t.words.ghost_name
  pub same_length : length t'.words.now ≡ length t.words.now
  pub held : (cs : List Clock) → RowsHold t.words.now t.count cs → RowsHold t'.words.now t'.count (f cs)
