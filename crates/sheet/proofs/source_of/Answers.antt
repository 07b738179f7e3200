-- `sheet::source_of` meets its contract: as many names as the sizes say. Assumes nothing.
use mathlib.Core.Path.{refl}
use Rattle.sheet.proofs.source_of.Goals as goal

pub returns-clause-names : goal.returns-clause-names
returns-clause-names c = refl
