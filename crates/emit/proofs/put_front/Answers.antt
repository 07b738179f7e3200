-- `emit::put_front` meets its contract: one part after the other. Assumes nothing.
use Rattle.emit.proofs.NodePartsLaws.{front}
use Rattle.emit.proofs.put_front.Goals as goal

pub returns : goal.returns
returns c = λ M n q h. front M _ n q _ h _ _ _ _ c.emit_all.ensures c.put_counted.ensures c.put_counted-2.ensures
