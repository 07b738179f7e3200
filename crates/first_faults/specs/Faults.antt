-- The faults of a sheet's nodes, and the list that first faults are put in.
use Rattle.std.specs.Prelude.{ℕ, ◌≡◌, List, [], length, Result, Ok, Err, IfErr}
use Rattle.std.specs.Prelude as code
use Rattle.std.specs.Result.{is_err}
use Rattle.std.proofs.Math.Option.{Option, none, some}
use Rattle.std.proofs.Math.ListN.{get_elem?}
use Rattle.definitions.specs.declared.FaultRecord.{FaultRecord}
use Rattle.definitions.specs.declared.Refusal.{Refusal}
use Rattle.definitions.specs.Lists.{over}
use Rattle.definitions.specs.Tree.{Node}
use Rattle.definitions.specs.InferClocks.{NodeFault, Clocked, Clocking, clocking}
use Rattle.definitions.specs.Refusals.{accepted}
use Rattle.definitions.specs.Output.{condact_id, ClockedNode, node_faults}
use Rattle.definitions.specs.Answer.{Input, clockings}
use Rattle.findings.specs.declared.Found.{Found}
use Rattle.findings.specs.Value.{found_of}
use Rattle.stateless.specs.declared.Counts.{Counts}
use Rattle.grammar.specs.Read.{tokens_of}
use Rattle.layout.specs.declared.NodeLayout.{NodeLayout}
use Rattle.layout.specs.Laid.{LaidNode}
use Rattle.infer_clocks.specs.Clocked.{is_deep, SitesTold}
use Rattle.skeleton.specs.Sites.{EquationsSited}
use Rattle.index.specs.declared.Index.{Index}
use Rattle.index.specs.Indexed.{Indexed}
use Rattle.planned.specs.declared.HeldOperand.{HeldOperand}
use Rattle.node_plan.specs.Outcomes.{met_by, NodePlanned}
use Rattle.workspace.specs.declared.Working.{Working}
use Rattle.workspace.specs.Room.{RoomToPlan}

-- the fault that was found, if there is one
abbrev pub fault_found : Result (code.Option Found) Refusal → Option NodeFault
fault_found (Err r) = none
fault_found (Ok o) = found_of o

-- fault j of a node, from 0, if there are this node and this fault
abbrev pub fault_in : Input → Option ClockedNode → ℕ → Option NodeFault
fault_in r none j = none
fault_in r (some n) j = get_elem? (node_faults r.names r.sheet n) j

-- the node n, which ends at q, has this layout among the tokens of an index
abbrev pub LaidIn : Index → NodeLayout → Node → ℕ → Type 0
LaidIn t l n q = LaidNode t.source.names (tokens_of t.source) n q l

-- every site of a node with this layout has its clock in a table
abbrev pub SitedAt : Index → List ℕ → List Clocked → NodeLayout → Type 0
SitedAt t sites cs l = EquationsSited t.source.names t.source.tags.now t.source.values.now sites cs l.equations.at l.equations.end

-- the working tables have room to plan a node of the sheet with this index
abbrev pub RoomIn : Index → Working → Type 0
RoomIn t w = RoomToPlan t.source w

-- the sites of a node with this layout are told in the working tables, by its clocks
abbrev pub SitesIn : Index → Working → Clocking → NodeLayout → Type 0
SitesIn t w k l = SitesTold t.source w.sites.now k.findings k.equations l.equations.at l.equations.end

-- node k, which has this layout in its index: whether too deep a clock is formed in it, as refusal 9
pub record DeepAt {A : Type 0} (t : Index) (k : ℕ) (l : NodeLayout) (w : Working) (a : Result A Refusal) : Type 0 where
  pub refused_at : IfErr a (λ r. r ≡ Refusal.Deep k)
  pub deep : (n : Node) (q : ℕ) → LaidIn t l n q → RoomIn t w → is_err a ≡ is_deep (clocking n)

-- the node n of the sheet r, which has this layout in its index: its first fault was found; or it has none, and it is planned in the
-- working tables, where every site has its clock
pub record FoundIn (t : Index) (w : Working) (holds : List HeldOperand) (r : Input) (n : ClockedNode) (l : NodeLayout) (a : Result Counts Found) : Type 0 where
  pub fault : met_by a ≡ get_elem? (node_faults r.names r.sheet n) 0
  pub sited : node_faults r.names r.sheet n ≡ [] → SitedAt t w.sites.now n.clocking.equations l
  pub planned : (s : Counts) → a ≡ Ok s → NodePlanned t.source.names t.source.tags.now t.source.values.now w.chain.now w.table.now w.env.now holds w.rows.now r.sheet.types r.sheet.nodes n.node (condact_id r.names) n.clocking.equations l.equations.at l.equations.end s

-- node k by the sheet's index: whether too deep a clock is formed in it, as refusal 9, and its first fault
pub record NodeMet (t : Index) (k : ℕ) (a : Result (code.Option Found) Refusal) : Type 0 where
  pub refused_at : IfErr a (λ r. r ≡ Refusal.Deep k)
  pub deep : (r : Input) (n : Node) → Indexed t r → get_elem? r.sheet.nodes k ≡ some n → is_err a ≡ is_deep (clocking n)
  pub fault : (r : Input) (ns : List ClockedNode) → Indexed t r → clockings 0 r.sheet.nodes ≡ accepted ns → fault_found a ≡ fault_in r (get_elem? ns k) 0

-- so many fault records, over the front of a lent list as far as it reaches
pub record Recorded (lent fs : List FaultRecord) (m : ℕ) (now : List FaultRecord) : Type 0 where
  pub counted : m ≡ length fs
  pub written : now ≡ over fs lent
