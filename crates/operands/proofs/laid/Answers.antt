-- A wide constant's second word is within the sheet.
use Rattle.operands.proofs.Laws.{wide-in}
use Rattle.operands.proofs.laid.Goals as goal

pub returns-in-Wide : goal.returns-in-Wide
returns-in-Wide c = λ es q g. wide-in _ _ _ c.args.source.now.same_length _ _ _ _ c.in-Wide.is c.behind.ensures c.plain.ensures
