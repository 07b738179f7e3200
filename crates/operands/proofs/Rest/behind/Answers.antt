-- `behind` meets its contract: a count stands behind the first, and behind no other. Assumes nothing.
use mathlib.Core.Path.{sym, ◌∙◌, ap}
use lib.ListN.{length}
use Rattle.operands.specs.declared.Gap.{Gap}
use Rattle.operands.specs.Spread.{later, rest_at}
use Rattle.operands.proofs.Rest.behind.Goals as goal

pub returns-in-Between : goal.returns-in-Between
returns-in-Between c = (c.behind.ensures ∙ ap (λ (g : Gap). rest_at (length c.args.tags.now) g c.args.end) (sym c.in-Between.is), ap later (sym c.in-Between.is))
