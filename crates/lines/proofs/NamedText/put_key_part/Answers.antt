-- `lines::put_key_part` meets its contract. Assumes nothing.
use Rattle.definitions.specs.Lists.{bytes}
use Rattle.lines.proofs.Spelled.{spells_then, letters_put, name_put}
use Rattle.lines.proofs.NamedText.put_key_part.Goals as goal

pub returns : goal.returns
unfolding bytes
returns c = spells_then (letters_put c.put.ensures) (spells_then (name_put c.put_name.ensures) (letters_put c.put_sign.ensures))
