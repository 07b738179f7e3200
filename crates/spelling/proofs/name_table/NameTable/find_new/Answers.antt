-- `spelling::name_table::NameTable::find_new` meets its contract: this new name is looked for among those in use. Assumes nothing.
use Rattle.spelling.proofs.name_table.NameTable.find_new.Goals as goal

pub returns : goal.returns
returns g c = rw (← c.each.ensures.value) c.find_new.ensures
