-- `cycles::graph::Graph::settle_each` meets its contract: the set so far is settled.
-- Assumes nothing.
use Rattle.std.specs.Prelude.{◌≡◌, List, length}
use Rattle.definitions.specs.Tree.{TypeDef}
use Rattle.cycles.specs.Edges.{Edges, Acyclic}
use Rattle.cycles.proofs.graph.Graph.settle_each.Given as goal

abbrev pub invariant-loop-i : goal.invariant-loop-i
invariant-loop-i l =
    (length l.more ≡ 32) × ((types : List TypeDef) → Edges types l.self → Acyclic types l.self l.set → Acyclic types l.self l.more)
