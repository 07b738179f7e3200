-- `cycles::with_name` meets its contract: those passed are right, the others as before.
-- Assumes nothing.
use Rattle.std.specs.Prelude.{◌≡◌, false, ◌||◌, ℕ, ◌<◌, eqb, length, get_or}
use Rattle.cycles.proofs.with_name.Given as goal

abbrev pub invariant-loop-j : goal.invariant-loop-j
invariant-loop-j l =
    (length l.more ≡ 32) × ((k : ℕ) → k < l.j → get_or l.more k false ≡ (get_or l.set k false || eqb (get_or l.table.source.values.now (get_or l.table.places.now.at k 0) 0) l.x))
