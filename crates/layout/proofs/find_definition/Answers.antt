-- `layout::find_definition` meets its contract: a definition's name is the value at its place. Assumes nothing.
use Rattle.layout.proofs.TypedefsLaws.{found-first}
use Rattle.layout.proofs.find_definition.Goals as goal

pub returns-clause-first : goal.returns-clause-first
returns-clause-first c = λ ds t. found-first _ _ _ ds _ c.find.ensures.used t _ c.find.ensures.first
