-- `emit::put_probes` meets its contract: the probes stand where they were read. Assumes nothing.
use Rattle.emit.proofs.NodePartsLaws.{probes-stand, counted}
use Rattle.emit.proofs.put_probes.Goals as goal

pub returns : goal.returns
returns c = λ M n q h. counted _ _ _ _ _ _ h.probes.many (probes-stand M _ _ _ h.probes) c.put_counted.ensures
