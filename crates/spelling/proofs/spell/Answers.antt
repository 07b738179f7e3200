-- `spelling::spell` meets its contract. Assumes nothing.
use Rattle.spelling.proofs.Buffer.{new-fits, new-reads, new-short}
use Rattle.spelling.proofs.spell.Goals as goal

pub shared_ref_as_front-result : goal.shared_ref_as_front-result
shared_ref_as_front-result c = new-fits c.args.name c.place-n.ensures c.put_new_name.ensures.put

pub returns-clause-value : goal.returns-clause-value
returns-clause-value c = new-reads c.args.name c.place-n.ensures c.put_new_name.ensures.put c.told-buffer

pub returns-clause-upper_bound : goal.returns-clause-upper_bound
returns-clause-upper_bound c = new-short c.args.name c.place-n.ensures c.put_new_name.ensures.put c.told-buffer
