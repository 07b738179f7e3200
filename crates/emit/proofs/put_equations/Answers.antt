-- `emit::put_equations` meets its contract: the equations stand where they were read. Assumes nothing.
use Rattle.emit.proofs.NodePartsLaws.{equations-stand, counted}
use Rattle.emit.proofs.put_equations.Goals as goal

pub returns : goal.returns
returns c = λ M n q h. counted _ _ _ _ _ _ h.equations.many (equations-stand M _ _ _ h.equations) c.put_counted.ensures
