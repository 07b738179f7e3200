-- `type_table` meets its contract; without these the check finds it, but edit `table_names` would meet no fact. Assumes nothing.
use mathlib.Core.Path.{refl}
use Rattle.index.proofs.Index.type_table.Goals as goal

pub returns : goal.returns
returns c = (refl, refl)
