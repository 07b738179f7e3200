-- `emit::put_locals` meets its contract: the locals stand where they were read. Assumes nothing.
use Rattle.emit.proofs.NodePartsLaws.{declared-stand, counted-more}
use Rattle.emit.proofs.put_locals.Goals as goal

pub returns : goal.returns
returns c = λ M n q h f. counted-more _ _ _ _ c.args.more _ _ _ h.locals.many c.saturating_add-all.ensures f (declared-stand M _ _ _ h.locals) c.put_items.ensures
