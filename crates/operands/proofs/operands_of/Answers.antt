-- `operands::operands_of` meets its contract. The law of what follows a first token.
-- Assumes nothing.
use Rattle.operands.proofs.Laws.{laid_of}
use Rattle.operands.proofs.operands_of.Goals as goal

pub returns : goal.returns
returns c = laid_of _ _ _ _ _ _ c.shape_of.ensures c.laid.ensures
