-- `cycles::edges` meets its contract: as many rows as there are places. Assumes nothing.
use mathlib.Core.Path.{refl}
use Rattle.cycles.proofs.edges.Goals as goal

pub returns-clause-count : goal.returns-clause-count
returns-clause-count c = refl
