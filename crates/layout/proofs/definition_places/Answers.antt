-- `layout::definition_places` meets its contract. Assumes nothing.
use Rattle.std.proofs.Common.{rules}
use native.Mathlib.Omega.{arith}
use Rattle.definitions.specs.Grammar.{type_def}
use Rattle.layout.proofs.TypedefsLaws.{ended-at, placed}
use Rattle.layout.proofs.definition_places.Goals as goal

pub returns-clause-table : goal.returns-clause-table
returns-clause-table c = λ l q g. placed _ _ _ _ _ l q (λ k h. ended-at (type_def _) _ _ (λ p r e a s j. search rules) _ _ l q g (c.places_of.ensures.each k h) (omega arith)) g
