-- What walking over a sheet's nodes leaves: the first in which too deep a clock is formed, the faults that are met, and the names and
-- tokens of the output.
use Rattle.std.specs.Prelude.{ℕ, ◌*◌, ◌≤◌, ◌<◌, ◌≡◌, List, [], true, false, length, Result, Ok, Err}
use Rattle.std.proofs.Math.Option.{some}
use Rattle.std.proofs.Math.ListN.{get_elem?}
use Rattle.definitions.specs.declared.Refusal.{Refusal}
use Rattle.definitions.specs.declared.FaultRecord.{FaultRecord}
use Rattle.definitions.specs.Lists.{Letters}
use Rattle.definitions.specs.Bytes.{bad_name}
use Rattle.grammar.specs.Read.{tokens_of}
use Rattle.definitions.specs.Reading.{got}
use Rattle.definitions.specs.Grammar.{node}
use Rattle.definitions.specs.InferClocks.{formed, clocking, uses_clocks}
use Rattle.definitions.specs.Refusals.{accepted, refused}
use Rattle.definitions.specs.Output.{letters_of, condact_id, ClockedNode, node_faults, with_new_names, names_out, output_node, node_tokens}
use Rattle.definitions.specs.Answer.{Input, input, clockings}
use Rattle.shapes.specs.Shape.{All, Bytes, ShapedEquation}
use Rattle.spelling.specs.declared.names.Spelling.{Spelling}
use Rattle.spelling.specs.declared.name_table.NameTable.{NameTable}
use Rattle.spelling.specs.Places.{letters_in}
use Rattle.spelling.specs.Table.{NamesHeld}
use Rattle.layout.specs.declared.NodeLayout.{NodeLayout}
use Rattle.layout.specs.Laid.{LaidNode}
use Rattle.emit.specs.declared.output.Output.{Output}
use Rattle.emit.specs.Out.{emits}
use Rattle.stateless.specs.Sheets.{first_faults_from, output_tokens}
use Rattle.skeleton.specs.Sites.{EquationsSited}
use Rattle.stateless.specs.declared.Counts.{Counts}
use Rattle.planned.specs.declared.HeldOperand.{HeldOperand}
use Rattle.node_plan.specs.Outcomes.{NodePlanned}
use Rattle.index.specs.declared.Index.{Index}
use Rattle.index.specs.Indexed.{Indexed}
use Rattle.query.specs.declared.fault_list.FaultList.{FaultList}
use Rattle.first_faults.specs.Faults.{RoomIn, Recorded}
use Rattle.new_names.specs.Filled.{counts_of}
use Rattle.declock.specs.declared.NodePlan.{NodePlan}
use Rattle.declock.specs.Planned.{names_with, NamesAhead}
use Rattle.workspace.specs.declared.Working.{Working}

-- the working tables have room to plan a node, and that of holds is as large as an output may need
pub record RoomToWrite (t : Index) (w : Working) (holds : List HeldOperand) : Type 0 where
  pub plans : RoomIn t w
  pub hold-room : length holds ≡ 1024

-- a sheet that these bytes say, the letters of whose names start there: its nodes have these clocks, and none has a fault
pub record Faultless (spelling : Spelling) (bytes : List ℕ) (r : Input) (ns : List ClockedNode) : Type 0 where
  pub are-bytes : Bytes bytes
  pub read : input bytes ≡ accepted r
  pub named : letters_in spelling ≡ letters_of r.names
  pub clocked : clockings 0 r.sheet.nodes ≡ accepted ns
  pub faultless : first_faults_from r 0 ns ≡ []

-- a node of such a sheet
pub record CleanNode (spelling : Spelling) (r : Input) (n : ClockedNode) : Type 0 where
  pub named : letters_in spelling ≡ letters_of r.names
  pub forms : clocking n.node ≡ formed n.clocking
  pub clean : node_faults r.names r.sheet n ≡ []
  pub distinct : bad_name [] r.names ≡ length r.names
  pub below : All (ShapedEquation (length r.names)) n.node.equations

-- one that uses clocks, which stands where the layout says
pub record CleanClocked (spelling : Spelling) (t : Index) (r : Input) (n : ClockedNode) (l : NodeLayout) : Type 0 where
  pub clean : CleanNode spelling r n
  pub uses : uses_clocks n.node ≡ true
  pub place : ℕ
  pub end : ℕ
  pub read : node t.source.names (tokens_of t.source) place ≡ got n.node end
  pub laid : LaidNode t.source.names (tokens_of t.source) n.node end l

-- each such node is planned, and its clocks with flags have their rows
pub record PlannedIn (spelling : Spelling) (t : Index) (l : NodeLayout) (s : Counts) (flags firsts plan : List ℕ) (holds : List HeldOperand) (types : List ℕ) : Type 0 where
  pub planned : (r : Input) (n : ClockedNode) → Indexed t r → CleanClocked spelling t r n l →
      NodePlanned t.source.names t.source.tags.now t.source.values.now plan flags firsts holds types r.sheet.types r.sheet.nodes n.node (condact_id r.names) n.clocking.equations l.equations.at l.equations.end s
  pub flag-room : length flags < 17408 → 17 * s.flags ≤ length flags
  pub first-room : length firsts < 17408 → 17 * s.firsts ≤ length firsts
  pub hold-room : length holds ≡ 1024

-- a plan is what planning left in these tables
pub record LeftIn (l : NodeLayout) (s : Counts) (flags firsts plan : List ℕ) (holds : List HeldOperand) (types : List ℕ) (p : NodePlan) : Type 0 where
  pub of-layout : p.layout ≡ l
  pub of-counts : counts_of p.needs ≡ s
  pub of-flags : p.needs.flags.words.now ≡ flags
  pub of-firsts : p.needs.firsts.words.now ≡ firsts
  pub of-plan : p.plan.now ≡ plan
  pub of-holds : p.holds.now ≡ holds
  pub of-types : p.types.now ≡ types

-- the sites of each such node have their clocks, and there is room to plan it
pub record SitedIn (spelling : Spelling) (t : Index) (l : NodeLayout) (w : Working) (holds : List HeldOperand) : Type 0 where
  pub sited : (r : Input) (n : ClockedNode) → Indexed t r → CleanClocked spelling t r n l → EquationsSited t.source.names t.source.tags.now t.source.values.now w.sites.now n.clocking.equations l.equations.at l.equations.end
  pub few-tokens : length t.source.tags.now ≤ 4096
  pub typed : t.source.names ≤ length w.rows.now
  pub noted : length t.source.tags.now ≤ length w.chain.now
  pub hold-room : length holds ≡ 1024

-- node k written, where it has no fault: its names behind those so far, then its tokens; a table of names that is full stays so
pub record NodePut (spelling : Spelling) (t : Index) (k : ℕ) (c c' : NameTable 1024 16384) (o o' : Output) : Type 0 where
  pub free : c'.full ≡ false → c.full ≡ false
  pub names : (r : Input) (n : ClockedNode) (before : List Letters) → Indexed t r → get_elem? r.sheet.nodes k ≡ some n.node → CleanNode spelling r n → NamesHeld c before → NamesHeld c' (with_new_names r.names r.sheet before n)
  pub tokens : (r : Input) (n : ClockedNode) (before all : List Letters) → Indexed t r → get_elem? r.sheet.nodes k ≡ some n.node → CleanNode spelling r n → NamesHeld c before → (uses_clocks n.node ≡ true → NamesAhead r.names before r.sheet n all) → c'.full ≡ false →
      o' ≡ emits o (node_tokens (output_node r.names r.sheet all n))

-- the same of a node with this layout
pub record LaidPut (spelling : Spelling) (t : Index) (l : NodeLayout) (c c' : NameTable 1024 16384) (o o' : Output) : Type 0 where
  pub free : c'.full ≡ false → c.full ≡ false
  pub names : (r : Input) (n : ClockedNode) (before : List Letters) → Indexed t r → CleanClocked spelling t r n l → NamesHeld c before → NamesHeld c' (names_with r.names before r.sheet n)
  pub tokens : (r : Input) (n : ClockedNode) (before all : List Letters) → Indexed t r → CleanClocked spelling t r n l → NamesHeld c before → NamesAhead r.names before r.sheet n all → c'.full ≡ false →
      o' ≡ emits o (node_tokens (output_node r.names r.sheet all n))

-- what was found over all nodes: refused at the first in which too deep a clock is formed; or each faulty node's first fault is recorded
-- over a lent list, and counted
unfoldable pub Walks : Input → List FaultRecord → FaultList → Result Unit Refusal → Type 0
Walks r lent l (Err e) = clockings 0 r.sheet.nodes ≡ refused e
Walks r lent l (Ok u) = (ns : List ClockedNode) × (clockings 0 r.sheet.nodes ≡ accepted ns) × Recorded lent (first_faults_from r 0 ns) l.count l.records.now

-- the names and tokens of a sheet without faults behind those that were there
pub record AllPut (r : Input) (ns : List ClockedNode) (c : NameTable 1024 16384) (o o' : Output) : Type 0 where
  pub names : NamesHeld c (names_out r.names r.sheet ns)
  pub tokens : c.full ≡ false → o' ≡ emits o (output_tokens r.names r.sheet (names_out r.names r.sheet ns) ns)
