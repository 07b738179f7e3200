-- `has_default` meets its contract: the table that it lends is the index's. Assumes nothing.
use Rattle.index.proofs.CalleesLaws.{lent-has}
use Rattle.index.proofs.Index.has_default.Goals as goal

pub returns : goal.returns
returns c = lent-has c.type_table.result c.args.self.now c.type_table.ensures _ _ c.type_has_default.ensures
