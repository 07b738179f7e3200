-- `lines::put_left_elsewhere` meets its contract. Assumes nothing.
use Rattle.definitions.specs.Lists.{bytes}
use Rattle.lines.proofs.Spelled.{spells_then, spells_as, letters_put}
use Rattle.lines.proofs.Pieces.{text-left, text-port}
use Rattle.lines.proofs.NamedText.put_left_elsewhere.Goals as goal

pub returns-then-port : goal.returns-then-port
unfolding bytes
returns-then-port c = rw c.if-port.true (spells_as (λ n. text-port n _ _ _) (spells_then c.put_on_another.ensures (letters_put c.put_all.ensures)))

pub returns-else-port : goal.returns-else-port
unfolding bytes
returns-else-port c = rw c.if-port.false (spells_as (λ n. text-left n _ _ _) c.put_on_another.ensures)
