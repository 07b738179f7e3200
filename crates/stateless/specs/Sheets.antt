-- A sheet's nodes one by one: their clocks, their faults and their tokens in the output, from a node on.
use Rattle.std.specs.Prelude.{ℕ, ◌+◌, ◌≡◌, Bool, true, false, length, take, drop}
use mathlib.Core.List.{List, [], ◌∷◌, ◌++◌, map, Memᴰ}
use Rattle.std.proofs.Math.Option.{Option, none, some}
use Rattle.std.proofs.Math.ListN.{get_elem?}
use Rattle.definitions.specs.declared.FaultRecord.{FaultRecord}
use Rattle.definitions.specs.declared.Token.{Token}
use Rattle.definitions.specs.Lists.{join, numbered, Letters}
use Rattle.definitions.specs.Tree.{TypeDef, Node, Sheet}
use Rattle.definitions.specs.InferClocks.{formed, NodeFault, clocking}
use Rattle.definitions.specs.Output.{ClockedNode, definition_tokens, node_tokens, node_faults, output_node}
use Rattle.definitions.specs.Answer.{Input, first_of}
use Rattle.shapes.specs.Shape.{All}

-- each node with its clocks, in order
pub record Formings (nodes : List Node) (ns : List ClockedNode) : Type 0 where
  pub same_nodes : map (λ n. n.node) ns ≡ nodes
  pub same_length : length ns ≡ length nodes
  pub each : All (λ n. clocking n.node ≡ formed n.clocking) ns

-- node i with its clocks: the nodes left begin with it, those up to it end in it
pub record NodeHere (nodes : List Node) (ns : List ClockedNode) (i : ℕ) : Type 0 where
  pub clocked : ClockedNode
  pub node-here : get_elem? nodes i ≡ some clocked.node
  pub here : get_elem? ns i ≡ some clocked
  pub left : drop i ns ≡ clocked ∷ drop (i + 1) ns
  pub front : take (i + 1) ns ≡ take i ns ++ (clocked ∷ [])
  pub before : length (take i ns) ≡ i
  pub forms : clocking clocked.node ≡ formed clocked.clocking
  pub member : Memᴰ clocked ns

-- none or one
-- Stays (no plainer): `runs` `Accepted`, below, has it in place for one step; mathlib's `Option-to_list` does not compute by itself.
abbrev pub one_of : Option NodeFault → List NodeFault
one_of none = []
one_of (some f) = f ∷ []

-- a node's faults, by its clock faults, whether it uses clocks, and the fault that its rewriting stops at
abbrev pub faults_by : List NodeFault → Bool → Option NodeFault → List NodeFault
faults_by (f ∷ fs) uses o = f ∷ fs
faults_by [] true o = one_of o
faults_by [] false o = []

-- each faulty node's first fault, from node i on
unfoldable pub first_faults_from : Input → ℕ → List ClockedNode → List FaultRecord
unfolding node_faults
first_faults_from r i ns = join (numbered (λ i n. first_of i (node_faults r.names r.sheet n)) i ns)

-- the tokens before the nodes: the types with their definitions, then how many nodes
unfoldable pub head_tokens : List TypeDef → ℕ → List Token
unfolding definition_tokens
head_tokens types n = Token.Types (length types) ∷ (join (map (λ d. definition_tokens d.name d.body) types) ++ (Token.Nodes n ∷ []))

-- the tokens of nodes of the output, whose names are given
unfoldable pub output_tokens : List Letters → Sheet → List Letters → List ClockedNode → List Token
unfolding node_tokens output_node
output_tokens names sheet all ns = join (map (λ n. node_tokens (output_node names sheet all n)) ns)
