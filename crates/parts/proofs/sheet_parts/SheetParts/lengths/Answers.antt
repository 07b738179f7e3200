-- `parts::sheet_parts::SheetParts::lengths` meets its contract. Assumes nothing.
use Rattle.parts.proofs.Laws.{lengths-part, lengths-count}
use Rattle.parts.proofs.sheet_parts.SheetParts.lengths.Goals as goal

pub returns-clause-value : goal.returns-clause-value
returns-clause-value c = lengths-part c.args.self.sized

pub returns-clause-count : goal.returns-clause-count
returns-clause-count c = lengths-count c.args.self.sized
