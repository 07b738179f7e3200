-- `cycles::graph::Graph::step` meets its contract: those passed are right.
-- Assumes nothing.
use Rattle.std.specs.Prelude.{◌≡◌, ◌↔◌, ◌⊎◌, true, false, ℕ, ◌<◌, length, get_or}
use Rattle.cycles.specs.Edges.{Joined}
use Rattle.cycles.proofs.graph.Graph.step.Given as goal

abbrev pub invariant-loop-j : goal.invariant-loop-j
invariant-loop-j l =
    (length l.more ≡ 32) × ((k : ℕ) → k < l.j → (get_or l.more k false ≡ true) ↔ ((get_or l.set k false ≡ true) ⊎ Joined l.self l.set k))
