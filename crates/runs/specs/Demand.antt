-- Demand 3: every run of a rewritten plain node, kept to each name's clock, is a run of the source node, for any values, any inputs
-- and any number of ticks, whatever undeclared names and called nodes are. "Demand 3 is one claim about the whole list of ticks"
use Rattle.std.specs.Prelude.{◌≡◌, true, List, map, ℕ, ◌<◌, length}
use Rattle.std.proofs.Math.Option.{some}
use Rattle.std.proofs.Math.ListN.{get_elem?}
use Rattle.definitions.specs.Lists.{Letters}
use Rattle.definitions.specs.Tree.{Node, Sheet}
use Rattle.definitions.specs.InferClocks.{is_port}
use Rattle.definitions.specs.Refusals.{accepted}
use Rattle.definitions.specs.Output.{letters_of, ClockedNode, written}
use Rattle.definitions.specs.Answer.{Input, input, clockings}
use Rattle.shapes.specs.Shape.{ShapedSheet, SizedSheet}
use Rattle.runs.specs.Callees.{Callees, callees_of}
use Rattle.runs.specs.Run.{Meaning, Env, RewrittenRun, SourceRun, Kept}
use Rattle.runs.specs.Plain.{Plain}

-- a node in a sheet with callees C, with its clocks, and a node in a sheet with callees C': every run of the latter, kept to each
-- name's clock, is a run of the former, under some unset values of its own
unfoldable pub RunsKept : (Val : Type 0) → Callees → Callees → ClockedNode → Node → Type 0
RunsKept Val C C' source rewritten =
    (M : Meaning Val) (ticks : ℕ) (ρ ρ' : Env Val)
    → RewrittenRun M C' rewritten ticks ρ → Kept M source ticks ρ ρ' → SourceRun M C source ticks ρ'

-- a run of a source node depends on the kept values alone
unfoldable pub KeptAlone : (Val : Type 0) → Callees → ClockedNode → Type 0
KeptAlone Val C source =
    (M : Meaning Val) (ticks : ℕ) (ρ ρ' : Env Val)
    → SourceRun M C source ticks ρ → Kept M source ticks ρ ρ' → SourceRun M C source ticks ρ'

-- an input or output is kept at every tick, since it is on base, so that the inputs are the same
unfoldable pub PortsKept : (Val : Type 0) → ClockedNode → Type 0
PortsKept Val source =
    (M : Meaning Val) (ticks : ℕ) (ρ ρ' : Env Val) → Kept M source ticks ρ ρ'
    → (x t : ℕ) → is_port source.node x ≡ true → t < ticks → ρ x t ≡ ρ' x t

-- a node of the sheet r, with its clocks, and the node that stands in its place in the sheet s with these names
pub record NodeKept (Val : Type 0) (r : Input) (names : List Letters) (s : Sheet) (source : ClockedNode) (rewritten : Node) : Type 0 where
  pub same_inputs : rewritten.inputs ≡ source.node.inputs
  pub same-outputs : rewritten.outputs ≡ source.node.outputs
  pub ports-kept : PortsKept Val source
  pub runs-kept : Plain r.names r.sheet source → RunsKept Val (callees_of r.names r.sheet) (callees_of names s) source rewritten
  pub kept-alone : Plain r.names r.sheet source → KeptAlone Val (callees_of r.names r.sheet) source

-- the sheet r, whose nodes have these clocks, and the sheet s with these names
pub record SheetKept (Val : Type 0) (r : Input) (nodes : List ClockedNode) (names : List Letters) (s : Sheet) : Type 0 where
  -- an id of the source means the same letters, so that what is fixed is the same in both; no two ids have the same letters
  pub same_names : (x : ℕ) → x < length r.names → letters_of names x ≡ letters_of r.names x
  pub names_apart : (x y : ℕ) → x < length names → y < length names → letters_of names x ≡ letters_of names y → x ≡ y
  -- each node has one in its place
  pub same_length : length s.nodes ≡ length nodes
  pub nodes-kept : (i : ℕ) (source : ClockedNode) → get_elem? nodes i ≡ some source → (rewritten : Node) × (get_elem? s.nodes i ≡ some rewritten) × NodeKept Val r names s source rewritten

-- of bytes handed in and bytes written. The rewriting is not in it: it speaks of every sheet that the bytes written say.
pub record DemandThree (Val : Type 0) (bytes out : List ℕ) : Type 0 where
  -- what the bytes handed in say, and its nodes with their clocks
  pub source : Input
  pub nodes : List ClockedNode
  pub reading : input bytes ≡ accepted source
  pub clocks : clockings 0 source.sheet.nodes ≡ accepted nodes
  pub all-nodes : map (λ n. n.node) nodes ≡ source.sheet.nodes
  -- one format for both: the writer writes the source so
  pub source-written : written source.names source.sheet ≡ bytes
  -- some sheet that the format can say has the bytes written
  pub some-sheet : (names : List Letters) × (s : Sheet) × ShapedSheet s × SizedSheet names s × (written names s ≡ out)
  -- and every such sheet keeps the source's runs
  pub every-sheet : (names : List Letters) (s : Sheet) → ShapedSheet s → SizedSheet names s → written names s ≡ out → SheetKept Val source nodes names s

-- the same for values that are numbers: the one fixed type that a contract carries
abbrev pub DemandThreeAt : List ℕ → List ℕ → Type 0
DemandThreeAt bytes out = DemandThree ℕ bytes out
