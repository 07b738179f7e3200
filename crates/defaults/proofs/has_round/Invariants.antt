-- `defaults::has_round` meets its contract: those passed are right.
-- Assumes nothing.
use Rattle.std.specs.Prelude.{◌≡◌, ◌↔◌, true, false, ℕ, ◌<◌, length, get_or}
use Rattle.cycles.specs.Edges.{row_at, IsWithin}
use Rattle.defaults.proofs.has_round.Given as goal

abbrev pub invariant-loop-i : goal.invariant-loop-i
invariant-loop-i l =
    (length l.more ≡ 32) × ((k : ℕ) → k < l.i → (get_or l.more k false ≡ true) ↔ (((row_at l.graph k).own ≡ true) × IsWithin l.graph.count (row_at l.graph k).set l.has))
