-- `lines::put_used_elsewhere` meets its contract. Assumes nothing.
use Rattle.definitions.specs.Lists.{bytes}
use Rattle.lines.proofs.Spelled.{spells_then, spells_as, letters_put}
use Rattle.lines.proofs.Pieces.{text-used}
use Rattle.lines.proofs.NamedText.put_used_elsewhere.Goals as goal

pub returns : goal.returns
unfolding bytes
returns c = spells_as (λ n. text-used n _ _ _) (spells_then c.put_on_another.ensures (letters_put c.put_all.ensures))
