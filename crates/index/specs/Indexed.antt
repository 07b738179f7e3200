-- A sheet in its index.
use Rattle.std.specs.Prelude.{ℕ, ◌≡◌, ◌<◌, List, true, length, get_or, Option, Some, None}
use Rattle.std.proofs.Math.Option.{none}
use Rattle.definitions.specs.Tree.{TypeDef, Node}
use Rattle.definitions.specs.Declock.{operator_outputs}
use Rattle.definitions.specs.Output.{condact_id}
use Rattle.definitions.specs.Answer.{Input}
use Rattle.grammar.specs.Read.{tokens_of}
use Rattle.layout.specs.Spans.{past_in}
use Rattle.layout.specs.Laid.{LaidSheet}
use Rattle.index.specs.Callees.{first_named, operator_in, NodesStand, TypesStand}
use Rattle.index.specs.declared.Index.{Index}

-- the nodes l stand where the index says
abbrev pub NodesIn : Index → List Node → Type 0
NodesIn t l = NodesStand t.source.names t.source.tags.now t.source.values.now t.nodes.at t.nodes.count l

-- its types are these, and it says which of them have a default
abbrev pub TypesIn : Index → List TypeDef → Type 0
TypesIn t types = TypesStand t.source.names t.source.tags.now t.source.values.now t.types.at t.types.count t.has types

-- the place of the second token of the first node named f, where that is an operator
abbrev pub OperatorStands : Index → ℕ → List Node → Option ℕ → Type 0
OperatorStands t f l None = operator_outputs l f ≡ none
OperatorStands t f l (Some p) =
    (i : ℕ) × (i < length l) × (i ≡ first_named f l)
    × (p ≡ past_in (length t.source.tags.now) (get_or t.nodes.at i 0)) × (operator_in (get_or t.source.values.now p 0) ≡ true)

-- the sheet r in its index: its nodes and its types' definitions stand where this says, with which of them have a default, and the id
-- of `condact` among its names
pub record Indexed (t : Index) (r : Input) : Type 0 where
  pub laid : LaidSheet t.source.names (tokens_of t.source) r.sheet t.whole
  pub nodes : NodesIn t r.sheet.nodes
  pub types : TypesIn t r.sheet.types
  pub condact : t.condact ≡ condact_id r.names
