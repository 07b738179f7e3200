-- `lines::put_on_another` meets its contract. Assumes nothing.
use Rattle.definitions.specs.Lists.{bytes}
use Rattle.lines.specs.Pieces.{on_another}
use Rattle.lines.proofs.Spelled.{spells_then, letters_put}
use Rattle.lines.proofs.NamedText.put_on_another.Goals as goal

pub returns : goal.returns
unfolding bytes on_another
returns c = spells_then c.put_quoted.ensures (spells_then (letters_put c.put_all.ensures) (spells_then c.put_clock_text.ensures (spells_then (letters_put c.put_all-2.ensures) c.put_clock_text-2.ensures)))
