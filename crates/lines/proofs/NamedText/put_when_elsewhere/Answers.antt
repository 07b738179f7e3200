-- `lines::put_when_elsewhere` meets its contract. Assumes nothing.
use Rattle.definitions.specs.Lists.{bytes}
use Rattle.definitions.specs.Texts.{fault_text}
use Rattle.lines.proofs.Spelled.{spells_then, letters_put}
use Rattle.lines.proofs.NamedText.put_when_elsewhere.Goals as goal

pub returns : goal.returns
unfolding bytes fault_text
returns c = spells_then (letters_put c.put.ensures) (spells_then c.put_condition.ensures (spells_then (letters_put c.put_all.ensures) (spells_then c.put_clock_text.ensures (letters_put c.put_all-2.ensures))))
