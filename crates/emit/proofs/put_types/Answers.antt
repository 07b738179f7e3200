-- `emit::put_types` meets its contract: the definitions stand where they were read. Assumes nothing.
use Rattle.emit.proofs.NodePartsLaws.{front-types}
use Rattle.emit.proofs.put_types.Goals as goal

pub returns : goal.returns
returns c = λ M s h. front-types M _ s _ _ _ _ h c.put_items.ensures c.emit.ensures
