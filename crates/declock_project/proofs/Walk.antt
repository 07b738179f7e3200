-- Node after node up to the first in which too deep a clock is formed, with the first faults recorded in a list.
-- Assumes nothing.
use Prim.Native.Nat.{ℕ, ◌≤◌, ◌<◌}
use mathlib.Core.Path.{◌≡◌, ◌∙◌}
use mathlib.Core.List.{List}
use mathlib.Core.Bool.{Bool, true}
use mathlib.Core.Option.{some}
use lib.ListN.{length, take, drop, get_elem?}
use Rattle.std.specs.Prelude.{Ok, Err}
use Rattle.definitions.specs.declared.Refusal.{Refusal}
use Rattle.definitions.specs.declared.FaultRecord.{FaultRecord}
use Rattle.planned.specs.declared.HeldOperand.{HeldOperand}
use Rattle.definitions.specs.Tree.{Node}
use Rattle.definitions.specs.Refusals.{accepted}
use Rattle.definitions.specs.InferClocks.{clocking}
use Rattle.definitions.specs.Output.{ClockedNode}
use Rattle.definitions.specs.Answer.{Input, clockings}
use Rattle.infer_clocks.specs.Clocked.{is_deep}
use Rattle.infer_clocks.proofs.Laws.{Ahead}
use Rattle.stateless.specs.Sheets.{first_faults_from}
use Rattle.query.specs.declared.fault_list.FaultList.{FaultList}
use Rattle.first_faults.specs.Faults.{Recorded}
use Rattle.first_faults.proofs.Records.{first-end, nodes-deep, nodes-end}
use Rattle.index.specs.declared.Index.{Index}
use Rattle.workspace.specs.declared.Working.{Working}
use Rattle.workspace.specs.Room.{SameRoom}
use Rattle.workspace.proofs.Kept.{plan-kept}
use Rattle.declock_project.specs.Walk.{Walks, RoomToWrite}

module _ (r : Input) (k : ℕ) (ahead : Ahead k (drop k r.sheet.nodes) (clockings 0 r.sheet.nodes)) where
  pub walk-deep : (b : Bool) → k < length r.sheet.nodes → ((n : Node) → get_elem? r.sheet.nodes k ≡ some n → b ≡ is_deep (clocking n)) → (lent : List FaultRecord) (l : FaultList) → b ≡ true → Walks r lent l (Err (Refusal.Deep k))
  unfolding Walks
  walk-deep b few told lent l e = nodes-deep r k ahead b few told e

  pub walk_end : (lent : List FaultRecord) (l : FaultList) (u : Unit) → length r.sheet.nodes ≤ k → ((ns : List ClockedNode) → clockings 0 r.sheet.nodes ≡ accepted ns → Recorded lent (first_faults_from r 0 (take k ns)) l.count l.records.now) → Walks r lent l (Ok u)
  unfolding Walks
  walk_end lent l u past f =
      let n = nodes-end r k ahead past in
      (n.0, n.1, first-end r n.0 n.1 lent k l.count l.records.now past (f n.0 n.1))

-- ---- the working tables keep their room
pub room-still : {t : Index} {w w' : Working} {holds holds' : List HeldOperand} → SameRoom w w' → length holds' ≡ length holds → RoomToWrite t w holds → RoomToWrite t w' holds'
room-still x y r = record { plans = plan-kept x r.plans; hold-room = y ∙ r.hold-room }
