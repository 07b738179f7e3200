-- `lines::put_fault_text` meets its contract. Assumes nothing.
use Rattle.definitions.specs.Lists.{bytes}
use Rattle.definitions.specs.Texts.{fault_text}
use Rattle.lines.proofs.Spelled.{letters_put}
use Rattle.lines.proofs.NamedText.put_fault_text.Goals as goal

pub returns-in-NotSingleCall : goal.returns-in-NotSingleCall
unfolding bytes fault_text
returns-in-NotSingleCall c = rw c.in-NotSingleCall.is (letters_put c.put_all.ensures)

pub returns-in-PreUntyped : goal.returns-in-PreUntyped
unfolding bytes fault_text
returns-in-PreUntyped c = rw c.in-PreUntyped.is (letters_put c.put_all-in-PreUntyped.ensures)
