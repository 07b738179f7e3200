-- `new_names::id_of` meets its contract. Assumes nothing.
use native.Mathlib.Omega.{arith}
use Rattle.spelling.specs.Stems.{new_letters}
use Rattle.new_names.proofs.Added.{id-fits}
use Rattle.new_names.proofs.id_of.Goals as goal

pub overflow_cast-result : goal.overflow_cast-result
overflow_cast-result c = omega (arith, id-fits c.args.table.now (omega arith) (new_letters c.args.name) c.find_new.ensures)
