-- `cycles::edges` meets its contract: the rows so far are right.
-- Assumes nothing.
use Rattle.std.specs.Prelude.{◌≡◌, List, [], false, ℕ, ◌<◌, length, get_or}
use Rattle.definitions.specs.Tree.{TypeDef}
use Rattle.definitions.specs.Types.{goes_on}
use Rattle.layout.specs.Table.{name_at}
use Rattle.cycles.specs.Defines.{Defines}
use Rattle.cycles.specs.Edges.{TargetsAre, own_name}
use Rattle.cycles.proofs.edges.Given as goal

abbrev pub invariant-loop-i : goal.invariant-loop-i
invariant-loop-i l =
    (length l.rows ≡ 32) × ((types : List TypeDef) → Defines l.table types → (k : ℕ) → k < l.i → TargetsAre types (get_or l.rows k (record { set = []; own = false })) (goes_on types (name_at types k)) (own_name types (name_at types k)))
