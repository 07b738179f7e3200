-- `lines::NamedText::put_equation_line` meets its contract. Assumes nothing.
use Rattle.definitions.specs.Lists.{bytes}
use Rattle.lines.specs.Pieces.{equation_line}
use Rattle.lines.proofs.Spelled.{spells_then, letters_put}
use Rattle.lines.proofs.NamedText.put_equation_line.Goals as goal

pub returns : goal.returns
unfolding bytes equation_line
returns c = spells_then (letters_put c.put_decimal.ensures) (spells_then (letters_put c.put.ensures) (spells_then c.put_clock_key.ensures (letters_put c.put-2.ensures)))
