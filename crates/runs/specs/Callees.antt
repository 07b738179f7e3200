-- How a node reads a bare name, and a sheet a name that is called.
use Rattle.std.specs.Prelude.{ℕ, Bool, false, List, map, eqb}
use Rattle.std.proofs.Math.Option.{none, some}
use Rattle.definitions.specs.Lists.{find, among, Letters}
use Rattle.definitions.specs.Tree.{Node, Sheet}
use Rattle.definitions.specs.Declock.{declared, is_operator_kind}
use Rattle.definitions.specs.Output.{condact_id}

-- is a name declared in a node?
abbrev pub is_declared : Node → ℕ → Bool
is_declared n x = among x (map (λ d. d.name) (declared n))

-- how a sheet reads a name that is called: is it an operator's, and which id is `condact`
pub record Callees : Type 0 where
  pub operators : ℕ → Bool
  pub condact : ℕ

-- is a call of this name an operator's? "the first of a name is found"
unfoldable pub is_operator : List Node → ℕ → Bool
is_operator nodes f = elim (find (λ n. eqb n.name f) nodes) [ none ↦ false | some n ↦ is_operator_kind n.kind ]

abbrev pub callees_of : List Letters → Sheet → Callees
callees_of names s = record { operators = is_operator s.nodes; condact = condact_id names }
