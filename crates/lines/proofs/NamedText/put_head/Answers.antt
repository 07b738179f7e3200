-- `lines::NamedText::put_head` meets its contract. Assumes nothing.
use Rattle.definitions.specs.Lists.{bytes}
use Rattle.lines.specs.Pieces.{head_line}
use Rattle.lines.proofs.Spelled.{spells_then, letters_put, name_put}
use Rattle.lines.proofs.NamedText.put_head.Goals as goal

pub returns : goal.returns
unfolding bytes head_line
returns c =
    spells_then (name_put c.put_name.ensures)
    (spells_then (letters_put c.put_number.ensures) (spells_then (letters_put c.put_number-2.ensures) (spells_then (letters_put c.put_number-3.ensures) (letters_put c.put.ensures))))
