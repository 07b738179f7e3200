-- `cycles::graph::Graph::settles` meets its contract: the set so far is settled.
-- Assumes nothing.
use Rattle.std.specs.Prelude.{List}
use Rattle.definitions.specs.Tree.{TypeDef}
use Rattle.cycles.specs.Edges.{Edges, Acyclic}
use Rattle.cycles.proofs.graph.Graph.settles.Given as goal

abbrev pub invariant-loop : goal.invariant-loop
invariant-loop l =
    (types : List TypeDef) → Edges types l.self → Acyclic types l.self l.set
