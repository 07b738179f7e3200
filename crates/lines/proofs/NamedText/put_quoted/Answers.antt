-- `lines::put_quoted` meets its contract. Assumes nothing.
use Rattle.lines.proofs.Spelled.{spells_then, letters_put, name_put}
use Rattle.lines.proofs.NamedText.put_quoted.Goals as goal

pub returns : goal.returns
returns c = spells_then (letters_put c.put.ensures) (spells_then (name_put c.put_name.ensures) (letters_put c.put-2.ensures))
