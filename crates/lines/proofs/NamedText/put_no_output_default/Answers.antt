-- `lines::put_no_output_default` meets its contract. Assumes nothing.
use Rattle.definitions.specs.Lists.{bytes}
use Rattle.definitions.specs.Texts.{fault_text}
use Rattle.lines.proofs.Spelled.{spells_then, letters_put}
use Rattle.lines.proofs.NamedText.put_no_output_default.Goals as goal

pub returns : goal.returns
unfolding bytes fault_text
returns c = spells_then (letters_put c.put_all.ensures) (spells_then c.put_quoted.ensures (spells_then (letters_put c.put_all-2.ensures) c.put_quoted-2.ensures))
