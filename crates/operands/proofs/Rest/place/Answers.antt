-- `place` meets its contract: a name stands before the first. Assumes nothing.
use mathlib.Core.Path.{sym, ◌∙◌, ap}
use lib.ListN.{length}
use Rattle.operands.specs.declared.Gap.{Gap}
use Rattle.operands.specs.Spread.{operand_at}
use Rattle.operands.proofs.Rest.place.Goals as goal

pub returns-in-Names : goal.returns-in-Names
returns-in-Names c = c.behind.ensures ∙ ap (λ (g : Gap). operand_at (length c.args.tags.now) g c.args.self.next) (sym c.in-Names.is)
