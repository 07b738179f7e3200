-- `parts::sheet_parts::SheetParts::letters` meets its contract. Assumes nothing.
use Rattle.parts.proofs.Laws.{letters-part, letters-count}
use Rattle.parts.proofs.sheet_parts.SheetParts.letters.Goals as goal

pub returns-clause-value : goal.returns-clause-value
returns-clause-value c = letters-part c.args.self.sized

pub returns-clause-count : goal.returns-clause-count
returns-clause-count c = letters-count c.args.self.sized
