-- `lines::put_clock_name_elsewhere` meets its contract. Assumes nothing.
use Rattle.definitions.specs.Lists.{bytes}
use Rattle.definitions.specs.Texts.{fault_text}
use Rattle.lines.specs.Pieces.{on_another}
use Rattle.lines.proofs.Spelled.{spells_then, letters_put}
use Rattle.lines.proofs.NamedText.put_clock_name_elsewhere.Goals as goal

pub returns : goal.returns
unfolding bytes fault_text on_another
returns c = spells_then (letters_put c.put_all.ensures) c.put_on_another.ensures
