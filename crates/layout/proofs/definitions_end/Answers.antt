-- `layout::definitions_end` meets its contract. Assumes nothing.
use Rattle.std.proofs.Common.{rules}
use Rattle.definitions.specs.Grammar.{type_def}
use Rattle.layout.proofs.TypedefsLaws.{ended}
use Rattle.layout.proofs.definitions_end.Goals as goal

pub returns : goal.returns
returns c = λ l q g. ended (type_def _) _ _ (λ p r e a s h. search rules) _ _ l q g _ c.items_end.ensures
