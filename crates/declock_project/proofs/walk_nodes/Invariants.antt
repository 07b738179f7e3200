-- `declock_project::walk_nodes` meets its contract: in the first k nodes no clock is too deep, their first faults are recorded, and where
-- there are none their names and tokens are put. Assumes nothing.
use Prim.Native.Nat.{ℕ, ◌≤◌}
use mathlib.Core.Path.{◌≡◌}
use mathlib.Core.List.{List}
use mathlib.Core.Bool.{false}
use lib.ListN.{length, take, drop}
use Rattle.definitions.specs.Refusals.{accepted}
use Rattle.definitions.specs.Output.{ClockedNode}
use Rattle.definitions.specs.Answer.{Input, clockings}
use Rattle.spelling.specs.Table.{NamesHeld}
use Rattle.infer_clocks.proofs.Laws.{Ahead}
use Rattle.stateless.specs.Sheets.{first_faults_from}
use Rattle.index.specs.Indexed.{Indexed}
use Rattle.first_faults.specs.Faults.{Recorded}
use Rattle.workspace.specs.Room.{SameRoom}
use Rattle.declock_project.specs.Walk.{RoomToWrite, Faultless}
use Rattle.declock_project.proofs.Nodes.{names-to, tokens-to}
use Rattle.declock_project.proofs.walk_nodes.Given as goal

abbrev pub invariant-loop-k : goal.invariant-loop-k
invariant-loop-k l =
    SameRoom l.initial.working l.working
    × (length l.holds ≡ length l.initial.holds)
    × (l.list.count ≤ l.k)
    × ((i : Input) → Indexed l.named.index.now i → RoomToWrite l.named.index.now l.initial.working l.initial.holds → Ahead l.k (drop l.k i.sheet.nodes) (clockings 0 i.sheet.nodes))
    × ((i : Input) (ns : List ClockedNode) → Indexed l.named.index.now i → clockings 0 i.sheet.nodes ≡ accepted ns → RoomToWrite l.named.index.now l.initial.working l.initial.holds → Recorded l.initial.list.records.now (first_faults_from i 0 (take l.k ns)) l.list.count l.list.records.now)
    × ((bytes : List ℕ) (i : Input) (ns : List ClockedNode) (f : Faultless l.named.spelling bytes i ns) → Indexed l.named.index.now i → RoomToWrite l.named.index.now l.initial.working l.initial.holds → NamesHeld l.initial.sheet.names i.names → NamesHeld l.sheet.names (names-to f l.k))
    × ((bytes : List ℕ) (i : Input) (ns : List ClockedNode) (f : Faultless l.named.spelling bytes i ns) → Indexed l.named.index.now i → RoomToWrite l.named.index.now l.initial.working l.initial.holds → NamesHeld l.initial.sheet.names i.names → l.sheet.names.full ≡ false → l.sheet.tokens ≡ tokens-to f l.k l.initial.sheet.tokens)
