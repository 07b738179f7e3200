-- What is said of a called name.
use Rattle.std.specs.Prelude.{ℕ, ◌≡◌, List, Bool, eqb, length}
use Rattle.std.proofs.Math.Option.{Option, none, some}
use Rattle.definitions.specs.Lists.{place_by}
use Rattle.definitions.specs.Tokens.{TagValue}
use Rattle.definitions.specs.Bytes.{tokens}
use Rattle.definitions.specs.Tree.{Declared, TypeDef, Node}
use Rattle.definitions.specs.Grammar.{declaration, node}
use Rattle.definitions.specs.Declock.{is_operator_kind}
use Rattle.layout.specs.Spans.{kind_in, Spans}
use Rattle.layout.specs.declared.Span.{Span}
use Rattle.layout.specs.Laid.{Places}
use Rattle.layout.specs.Table.{Table}
use Rattle.defaults.specs.Has.{DefaultsKnown}
use Rattle.std.specs.declared.option.Option as code
use Rattle.std.specs.declared.option.Option.TheVariants.{None, Some}

-- the number of the first node of a name
abbrev pub first_named : ℕ → List Node → ℕ
first_named f l = place_by (λ n. eqb n.name f) l

-- does this value say an operator?
abbrev pub operator_in : ℕ → Bool
operator_in v = is_operator_kind (kind_in v)

-- the nodes l, so many, are read at these places
pub record NodesStand (M : ℕ) (gs vs places : List ℕ) (n : ℕ) (l : List Node) : Type 0 where
  pub count : length l ≡ n
  pub each : Places (node M) (tokens gs vs) places l

-- the definitions of types, so many, are read at these places, and the set says which of them have a default
pub record TypesStand (M : ℕ) (gs vs places : List ℕ) (n : ℕ) (has : List Bool) (types : List TypeDef) : Type 0 where
  pub table : Table M (tokens gs vs) places n types
  pub defaulted : DefaultsKnown types n n has

-- an operator's outputs stand where the answer says; anything else has none
unfoldable pub OutputsStand : ℕ → List TagValue → Option (List Declared) → code.Option Span → Type 0
OutputsStand M ts none (Some s) = ⊥
OutputsStand M ts none None = Unit {0}
OutputsStand M ts (some ds) (Some s) = Spans (declaration M) ts ds s
OutputsStand M ts (some ds) None = ⊥
