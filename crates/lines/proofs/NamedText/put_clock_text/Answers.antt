-- `lines::put_clock_text` meets its contract. Assumes nothing.
use Rattle.definitions.specs.Lists.{bytes}
use Rattle.lines.proofs.Spelled.{spells_then, spells_as, letters_put}
use Rattle.lines.proofs.Clocks.{text-base, text-words}
use Rattle.lines.proofs.NamedText.put_clock_text.Goals as goal

pub returns-in-None : goal.returns-in-None
unfolding bytes
returns-in-None c = spells_as (λ n. text-base n _ _ _ c.in-None.ensures.cases c.conditions.ensures.clock) (letters_put c.put_all.ensures)

pub returns-in-Some : goal.returns-in-Some
unfolding bytes
returns-in-Some c = spells_as (λ n. text-words n _ _ _ _ c.in-Some.ensures.cases.0 c.conditions.ensures.clock) (spells_then (letters_put c.put_all-in-Some.ensures) (spells_then c.put_conditions.ensures (letters_put c.put.ensures)))
