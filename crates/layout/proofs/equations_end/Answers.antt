-- `layout::equations_end` meets its contract. Assumes nothing.
use Rattle.std.proofs.Common.{rules}
use Rattle.definitions.specs.Grammar.{equation}
use Rattle.layout.proofs.TypedefsLaws.{ended}
use Rattle.layout.proofs.equations_end.Goals as goal

pub returns : goal.returns
returns c = λ M l q g. ended (equation M) _ _ (λ p r e a s h. search rules) _ _ l q g _ c.items_end.ensures
