-- `lines::NamedText::put_fault_line` meets its contract. Assumes nothing.
use Rattle.definitions.specs.Lists.{bytes}
use Rattle.lines.proofs.Pieces.{text-line}
use Rattle.lines.proofs.Spelled.{spells_then, spells_as, letters_put}
use Rattle.lines.proofs.NamedText.put_fault_line.Goals as goal

pub returns : goal.returns
unfolding bytes
returns c =
    spells_as (λ n. text-line n _ _ _ _ c.fault_number-number.ensures)
    (spells_then (letters_put c.put_all.ensures) (spells_then (letters_put c.put_number.ensures) (spells_then (letters_put c.put_number-2.ensures) (spells_then (letters_put c.put_number-3.ensures)
    (spells_then (letters_put c.put.ensures) (spells_then c.put_fault_text.ensures (letters_put c.put-2.ensures)))))))
