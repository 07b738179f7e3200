-- `lines::put_condition` meets its contract. Assumes nothing.
use Rattle.lines.proofs.Spelled.{spells_then, letters_put, name_put}
use Rattle.lines.proofs.NamedText.put_condition.Goals as goal

pub returns : goal.returns
returns c = spells_then (letters_put c.put_when.ensures) (name_put c.put_name.ensures)
