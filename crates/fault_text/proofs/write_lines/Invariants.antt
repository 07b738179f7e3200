-- `fault_text::write_lines` meets its contract: in the first k nodes no clock is too deep, and the lines of their first faults are put,
-- none longer than a line may be. Assumes nothing.
use Prim.Native.Nat.{◌*◌, ◌≤◌}
use mathlib.Core.Path.{◌≡◌}
use mathlib.Core.List.{List}
use lib.ListN.{take, drop}
use Rattle.definitions.specs.Refusals.{accepted}
use Rattle.definitions.specs.Output.{letters_of, ClockedNode}
use Rattle.definitions.specs.Answer.{Input, clockings, first_lines}
use Rattle.spelling.specs.Places.{letters_in}
use Rattle.spelling.specs.Written.{Wrote}
use Rattle.infer_clocks.proofs.Laws.{Ahead}
use Rattle.index.specs.Indexed.{Indexed}
use Rattle.first_faults.specs.Faults.{RoomIn}
use Rattle.workspace.specs.Room.{SameRoom}
use Rattle.fault_text.proofs.write_lines.Given as goal

abbrev pub invariant-loop-k : goal.invariant-loop-k
invariant-loop-k l =
    SameRoom l.initial.working l.working
    × (l.text.at ≤ 278998 * l.k)
    × (l.text.out.ghost_name ≡ l.initial.text.out.ghost_name)
    × ((i : Input) → Indexed l.index i → RoomIn l.index l.initial.working → Ahead l.k (drop l.k i.sheet.nodes) (clockings 0 i.sheet.nodes))
    × ((i : Input) (ns : List ClockedNode) → Indexed l.index i → clockings 0 i.sheet.nodes ≡ accepted ns → letters_in l.names.spelling ≡ letters_of i.names → RoomIn l.index l.initial.working → Wrote (first_lines i (take l.k ns)) l.initial.text l.text)
