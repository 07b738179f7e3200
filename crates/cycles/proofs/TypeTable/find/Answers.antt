-- `find` meets its contract: by the definitions' names. Assumes nothing.
use Rattle.cycles.proofs.TypeTable.find.Goals as goal

pub returns-clause-first : goal.returns-clause-first
returns-clause-first c = c.find_definition.ensures.first
