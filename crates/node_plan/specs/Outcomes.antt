-- What planning a node leaves: the fault that was met, or what is needed and the plan of its equations and holds.
use Rattle.std.specs.Prelude.{ℕ, ◌≡◌, List, length, Result, Ok, Err}
use Rattle.std.proofs.Math.Option.{Option, none, some}
use Rattle.definitions.specs.Bytes.{tokens}
use Rattle.definitions.specs.Tree.{TypeDef, Node}
use Rattle.definitions.specs.InferClocks.{NodeFault, Clocked}
use Rattle.definitions.specs.Declock.{declared}
use Rattle.grammar.specs.Read.{tokens_of}
use Rattle.layout.specs.declared.NodeLayout.{NodeLayout}
use Rattle.layout.specs.Laid.{LaidNode}
use Rattle.index.specs.declared.Index.{Index}
use Rattle.index.specs.Indexed.{NodesIn, TypesIn}
use Rattle.skeleton.specs.Sites.{EquationsSited}
use Rattle.findings.specs.declared.Found.{Found}
use Rattle.findings.specs.Value.{node_fault_of}
use Rattle.typing.specs.Found.{Declares}
use Rattle.stateless.specs.declared.Counts.{Counts}
use Rattle.stateless.specs.Need.{Needs, Counted}
use Rattle.stateless.specs.Yield.{old_yield}
use Rattle.stateless.specs.Faults.{old_fault}
use Rattle.stateless.specs.Whole.{no_needs, old_needs}
use Rattle.stateless.specs.Locals.{ids_in}
use Rattle.planned.specs.declared.HeldOperand.{HeldOperand}
use Rattle.planned.specs.Held.{HeldFrom}
use Rattle.plan.specs.Planned.{Whole}
use Rattle.planned.specs.Planned.{EquationsPlanned}

-- a node with this layout among these types and nodes, its equations having these clocks: its sites have theirs in the rows of their tokens
pub record NodeSited (index : Index) (sites : List ℕ) (l : NodeLayout) (types : List TypeDef) (nodes : List Node) (node : Node) (cs : List Clocked) : Type 0 where
  pub end : ℕ
  pub laid : LaidNode index.source.names (tokens_of index.source) node end l
  pub standing : NodesIn index nodes
  pub typed : TypesIn index types
  pub sited : EquationsSited index.source.names index.source.tags.now index.source.values.now sites cs l.equations.at l.equations.end
  pub many : length cs ≡ l.equations.count

-- the fault that was met
abbrev pub met_by : Result Counts Found → Option NodeFault
met_by (Ok s) = none
met_by (Err f) = some (node_fault_of f)

-- M is the number of names; the node stands among these types and nodes, and its equations, with these clocks, from p up to q
module _ (M : ℕ) (gs vs plan flags firsts : List ℕ) (holds : List HeldOperand) (typed : List ℕ) (types : List TypeDef) (nodes : List Node) (node : Node) (condact : ℕ) (cs : List Clocked) (p q : ℕ) where
  -- what the node needs
  abbrev pub needs_of : Needs
  needs_of = old_needs types nodes node condact cs no_needs

  -- the declared types of its names are in a table; what it needs is counted, and its equations and holds are planned
  pub record NodePlanned (s : Counts) : Type 0 where
    pub declares : Declares M (tokens gs vs) typed (declared node)
    pub counted : Counted flags firsts s needs_of
    pub planned : (x : ℕ) (flag_ids first_ids hold_ids : List ℕ) → Whole (length flags) (length firsts) (length holds) needs_of →
        EquationsPlanned M gs vs (record { types = types; nodes = nodes; node = node; condact = x; flag_ids = flag_ids; first_ids = first_ids; hold_ids = hold_ids }) plan condact (ids_in needs_of.flags needs_of.firsts flag_ids first_ids hold_ids x) 0 cs p q
    pub held : (x : ℕ) (flag_ids first_ids hold_ids : List ℕ) → Whole (length flags) (length firsts) (length holds) needs_of →
        HeldFrom M gs vs (record { types = types; nodes = nodes; node = node; condact = x; flag_ids = flag_ids; first_ids = first_ids; hold_ids = hold_ids }) plan holds 0 (old_yield types nodes node (ids_in needs_of.flags needs_of.firsts flag_ids first_ids hold_ids x) 0 cs).holds

  -- by the outcome: the first fault, and where there is none the plan
  pub record PlansNode (a : Result Counts Found) : Type 0 where
    pub met : met_by a ≡ old_fault types nodes node condact 0 cs
    pub planned : (s : Counts) → a ≡ Ok s → NodePlanned s
