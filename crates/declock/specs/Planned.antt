-- A node that is planned and meets no fault, and the names that it stands among.
use Rattle.std.specs.Prelude.{ℕ, ◌≡◌, List, [], ◌++◌, true, length}
use Rattle.std.proofs.Math.Option.{none}
use Rattle.definitions.specs.Lists.{Letters}
use Rattle.definitions.specs.Bytes.{bad_name}
use Rattle.definitions.specs.Tree.{Sheet}
use Rattle.definitions.specs.Reading.{got}
use Rattle.definitions.specs.Grammar.{node}
use Rattle.definitions.specs.InferClocks.{formed, clocking, uses_clocks}
use Rattle.definitions.specs.Declock.{declared}
use Rattle.definitions.specs.Output.{letters_of, condact_id, ClockedNode}
use Rattle.shapes.specs.Shape.{All, ShapedEquation}
use Rattle.grammar.specs.Read.{tokens_of}
use Rattle.spelling.specs.declared.names.Spelling.{Spelling}
use Rattle.spelling.specs.Places.{letters_in}
use Rattle.layout.specs.Table.{Table}
use Rattle.layout.specs.Laid.{LaidNode}
use Rattle.index.specs.declared.Index.{Index}
use Rattle.index.specs.Indexed.{NodesIn}
use Rattle.typing.specs.Found.{Declares}
use Rattle.stateless.specs.Need.{Needs}
use Rattle.stateless.specs.Yield.{Ids, old_yield}
use Rattle.stateless.specs.Faults.{old_fault}
use Rattle.stateless.specs.Whole.{no_needs, old_needs}
use Rattle.stateless.specs.Locals.{ids_in}
use Rattle.stateless.specs.Rewritten.{names_by}
use Rattle.new_names.specs.Filled.{HasRows, counted_in}
use Rattle.planned.specs.Writes.{Writer}
use Rattle.planned.specs.Held.{HeldFrom}
use Rattle.plan.specs.Planned.{Whole}
use Rattle.planned.specs.Planned.{EquationsPlanned}
use Rattle.declock.specs.declared.NodePlan.{NodePlan}

-- what rewriting a node of a sheet with these names needs
abbrev pub node_needs : List Letters → Sheet → ClockedNode → Needs
node_needs names s n = old_needs s.types s.nodes n.node (condact_id names) n.clocking.equations no_needs

-- the names so far, with those that the node adds
abbrev pub names_with : List Letters → List Letters → Sheet → ClockedNode → List Letters
names_with names before s n = names_by names before n.node (node_needs names s n)

-- what a node is written with
abbrev pub writer_of : Sheet → ClockedNode → ℕ → List ℕ → List ℕ → List ℕ → Writer
writer_of s n condact flag_ids first_ids hold_ids =
    record { types = s.types; nodes = s.nodes; node = n.node; condact = condact; flag_ids = flag_ids; first_ids = first_ids; hold_ids = hold_ids }

-- the ids of what it needs
abbrev pub ids_by : Needs → List ℕ → List ℕ → List ℕ → ℕ → Ids
ids_by w flag_ids first_ids hold_ids condact = ids_in w.flags w.firsts flag_ids first_ids hold_ids condact

-- a node of an accepted sheet: it uses clocks, has its clocks and meets no fault; it stands where the layout says, among the sheet's nodes
-- and types; the declared types of its names are in a table; what it needs is counted, and its equations and holds are planned
pub record PlannedNode (spelling : Spelling) (t : Index) (p : NodePlan) (names : List Letters) (sheet : Sheet) (n : ClockedNode) : Type 0 where
  pub named : letters_in spelling ≡ letters_of names
  pub standing : NodesIn t sheet.nodes
  pub table : Table t.source.names (tokens_of t.source) t.types.at t.types.count sheet.types
  pub uses : uses_clocks n.node ≡ true
  pub place : ℕ
  pub end : ℕ
  pub read : node t.source.names (tokens_of t.source) place ≡ got n.node end
  pub laid : LaidNode t.source.names (tokens_of t.source) n.node end p.layout
  pub forms : clocking n.node ≡ formed n.clocking
  pub going : old_fault sheet.types sheet.nodes n.node (condact_id names) 0 n.clocking.equations ≡ none
  pub distinct : bad_name [] names ≡ length names
  pub below : All (ShapedEquation (length names)) n.node.equations
  pub declares : Declares t.source.names (tokens_of t.source) p.types.now (declared n.node)
  pub flag-room : HasRows p.needs.flags.words.now (node_needs names sheet n).flags
  pub first-room : HasRows p.needs.firsts.words.now (node_needs names sheet n).firsts
  pub hold-room : length p.holds.now ≡ 1024
  pub counted : counted_in p.needs (node_needs names sheet n)
  pub planned : (condact : ℕ) (flag_ids first_ids hold_ids : List ℕ) → Whole (length p.needs.flags.words.now) (length p.needs.firsts.words.now) (length p.holds.now) (node_needs names sheet n) →
      EquationsPlanned t.source.names t.source.tags.now t.source.values.now (writer_of sheet n condact flag_ids first_ids hold_ids) p.plan.now (condact_id names) (ids_by (node_needs names sheet n) flag_ids first_ids hold_ids condact) 0 n.clocking.equations p.layout.equations.at p.layout.equations.end
  pub held : (condact : ℕ) (flag_ids first_ids hold_ids : List ℕ) → Whole (length p.needs.flags.words.now) (length p.needs.firsts.words.now) (length p.holds.now) (node_needs names sheet n) →
      HeldFrom t.source.names t.source.tags.now t.source.values.now (writer_of sheet n condact flag_ids first_ids hold_ids) p.plan.now p.holds.now 0 (old_yield sheet.types sheet.nodes n.node (ids_by (node_needs names sheet n) flag_ids first_ids hold_ids condact) 0 n.clocking.equations).holds

-- these names begin those
abbrev pub Begins : List Letters → List Letters → Type 0
Begins l all = (rest : List Letters) × (l ++ rest ≡ all)

-- the names so far, with the node's own, begin with the input's and begin all the output's, under which the node meets no fault either
pub record NamesAhead (names before : List Letters) (sheet : Sheet) (n : ClockedNode) (all : List Letters) : Type 0 where
  pub input : Begins names (names_with names before sheet n)
  pub output : Begins (names_with names before sheet n) all
  pub going : old_fault sheet.types sheet.nodes n.node (condact_id all) 0 n.clocking.equations ≡ none
