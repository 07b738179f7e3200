-- `cycles::graph::Graph::reaches_itself` meets its contract: the set holds the names reached so far.
-- Assumes nothing.
use Rattle.std.specs.Prelude.{◌≡◌, List, ℕ, ◌-◌, length}
use Rattle.definitions.specs.Tree.{TypeDef}
use Rattle.definitions.specs.Types.{goes_on, reached}
use Rattle.layout.specs.Table.{name_at}
use Rattle.cycles.specs.Edges.{NamesInSet, Edges}
use Rattle.cycles.proofs.graph.Graph.reaches_itself.Given as goal

abbrev pub invariant-loop : goal.invariant-loop
invariant-loop l =
    (types : List TypeDef) → Edges types l.self → (xs : List ℕ) × NamesInSet types l.set xs × (reached types (length types) (goes_on types (name_at types l.i)) ≡ reached types (length types - l.counter) xs)
