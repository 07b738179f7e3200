-- `lines::NamedText::put_chain_line` meets its contract. Assumes nothing.
use Rattle.definitions.specs.Lists.{bytes}
use Rattle.lines.specs.Pieces.{chain_line}
use Rattle.lines.proofs.Spelled.{spells_then, letters_put}
use Rattle.lines.proofs.NamedText.put_chain_line.Goals as goal

pub returns : goal.returns
unfolding bytes chain_line
returns c = spells_then (letters_put c.put_all.ensures) (spells_then c.put_clock_key.ensures (letters_put c.put.ensures))
