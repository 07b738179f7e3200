-- Sets of definitions, and which definition's name goes on to which.
use Rattle.std.specs.Prelude.{ℕ, ◌<◌, ◌≡◌, List, [], ◌∷◌, Bool, true, false, ltb, length, get_or}
use Rattle.std.proofs.Math.Option.{none, some}
use Rattle.definitions.specs.Lists.{all, among}
use Rattle.definitions.specs.Tree.{Body, TypeDef}
use Rattle.definitions.specs.Types.{targets, definition_of, goes_on, reached}
use Rattle.layout.specs.Table.{name_at, first_of}
use Rattle.cycles.specs.declared.graph.Targets.{Targets}
use Rattle.cycles.specs.declared.graph.Graph.{Graph}

-- is a name that of a definition?
abbrev pub is_defined : List TypeDef → ℕ → Bool
is_defined types x = ltb (first_of types x) (length types)

-- has a definition a default as soon as all that it goes on to have one? An enum, if it has a variant; others, if all that they go on to
-- are defined
unfoldable pub own_body : List TypeDef → Body → Bool
unfolding targets
own_body types (Body.enum []) = false
own_body types (Body.enum (v ∷ vs)) = true
own_body types (Body.fields fs) = all (is_defined types) (targets (Body.fields fs))
own_body types (Body.alias t) = all (is_defined types) (targets (Body.alias t))

-- the same of a name
unfoldable pub own_name : List TypeDef → ℕ → Bool
unfolding definition_of own_body
own_name types x = elim (definition_of types x) [ none ↦ false | some d ↦ own_body types d.body ]

-- the set says of each definition whether its name is among xs
pub record NamesInSet (types : List TypeDef) (set : List Bool) (xs : List ℕ) : Type 0 where
  pub says : (j : ℕ) → j < length types → get_or set j false ≡ among (name_at types j) xs

-- what goes on to the names xs, and has a default as soon as these have one, or not
pub record TargetsAre (types : List TypeDef) (t : Targets) (xs : List ℕ) (b : Bool) : Type 0 where
  pub holds : NamesInSet types t.set xs
  pub own : t.own ≡ b

-- the names xs, of which one that no definition has leaves no default
abbrev pub Marked : List TypeDef → Targets → List ℕ → Type 0
Marked types t xs = TargetsAre types t xs (all (is_defined types) xs)

-- what the i-th definition goes on to
abbrev pub row_at : Graph → ℕ → Targets
row_at g i = get_or g.rows i (record { set = []; own = false })

-- a graph of these definitions
pub record Edges (types : List TypeDef) (g : Graph) : Type 0 where
  pub count : length types ≡ g.count
  pub rows : (i : ℕ) → i < length types →
      TargetsAre types (row_at g i) (goes_on types (name_at types i)) (own_name types (name_at types i))

-- the i-th definition is the first of its name, and reaches itself
abbrev pub IsCycle : List TypeDef → ℕ → Type 0
IsCycle types i =
    (i ≡ first_of types (name_at types i)) × (among (name_at types i) (reached types (length types) (goes_on types (name_at types i))) ≡ true)

-- what is among the first n and in the one set is in the other
abbrev pub IsWithin : ℕ → List Bool → List Bool → Type 0
IsWithin n a b = (j : ℕ) → j < n → get_or a j false ≡ true → get_or b j false ≡ true

-- one of a set goes on to j
abbrev pub Joined : Graph → List Bool → ℕ → Type 0
Joined g set j = (i : ℕ) × (i < g.count) × (get_or set i false ≡ true) × (get_or (row_at g i).set j false ≡ true)

-- all that one of the set goes on to are in the set, and none of the set reaches itself, in any number of steps
pub record Acyclic (types : List TypeDef) (g : Graph) (set : List Bool) : Type 0 where
  pub closed : (i : ℕ) → i < length types → get_or set i false ≡ true → IsWithin (length types) (row_at g i).set set
  pub acyclic : (i : ℕ) → i < length types → get_or set i false ≡ true → (m : ℕ) →
      among (name_at types i) (reached types m (goes_on types (name_at types i))) ≡ false
