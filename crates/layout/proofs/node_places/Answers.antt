-- `layout::node_places` meets its contract. Assumes nothing.
use Rattle.std.proofs.Common.{rules}
use native.Mathlib.Omega.{arith}
use Rattle.definitions.specs.Grammar.{node}
use Rattle.layout.proofs.TypedefsLaws.{ended-at}
use Rattle.layout.proofs.Laws.{places}
use Rattle.layout.proofs.node_places.Goals as goal

pub returns-clause-places : goal.returns-clause-places
returns-clause-places c = λ l q g. places _ _ _ _ _ l q (λ k h. ended-at (node _) _ _ (λ p r e a s j. search rules) _ _ l q g (c.places_of.ensures.each k h) (omega arith)) g
