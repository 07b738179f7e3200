-- Where the definitions of a sheet's types stand among its tokens, and what stands there.
use Rattle.std.specs.Prelude.{ℕ, ◌<◌, ◌≡◌, List, [], Bool, eqb, length, get_or, Option, Some, None}
use Rattle.definitions.specs.Lists.{place_by}
use Rattle.definitions.specs.Tokens.{TagValue}
use Rattle.definitions.specs.Tree.{Ty, Declared, Body, TypeDef}
use Rattle.definitions.specs.Reading.{got}
use Rattle.definitions.specs.Grammar.{name, ty, declaration, type_def}
use Rattle.layout.specs.declared.Defined.{Defined}
use Rattle.layout.specs.Spans.{Spans}

-- what stands past the last definition
abbrev pub nowhere : TypeDef
nowhere = record { name = 0; body = Body.enum [] }

-- the i-th definition
abbrev pub def_at : List TypeDef → ℕ → TypeDef
def_at types i = get_or types i nowhere

-- the name of the i-th definition
abbrev pub name_at : List TypeDef → ℕ → ℕ
name_at types i = (def_at types i).name

-- is a definition one of this name?
abbrev pub is_named : ℕ → TypeDef → Bool
is_named x d = eqb d.name x

-- the place of the first definition of a name; the number of definitions, where there is none
abbrev pub first_of : List TypeDef → ℕ → ℕ
first_of types x = place_by (is_named x) types

-- what was found among n: the k-th; nothing, where k is n
abbrev pub Found : ℕ → ℕ → Option ℕ → Type 0
Found k n (Some i) = (i ≡ k) × (i < n)
Found k n None = k ≡ n

-- the first definition of a name
abbrev pub FoundFirst : List TypeDef → ℕ → Option ℕ → Type 0
FoundFirst types x r = Found (first_of types x) (length types) r

-- n definitions, each read at its place
pub record Table (M : ℕ) (ts : List TagValue) (places : List ℕ) (n : ℕ) (types : List TypeDef) : Type 0 where
  pub count : length types ≡ n
  pub stands : (i : ℕ) → i < n → (q : ℕ) × (type_def M ts (get_or places i 0) ≡ got (def_at types i) q)

-- n definitions, each with its name as the value at its place
pub record Named (vs : List ℕ) (places : List ℕ) (n : ℕ) (types : List TypeDef) : Type 0 where
  pub count : length types ≡ n
  pub same : (i : ℕ) → i < n → get_or vs (get_or places i 0) 0 ≡ name_at types i

-- the parts of a definition that ends at q: its name and its variants or fields, or where its type is
unfoldable pub Described : ℕ → List TagValue → TypeDef → ℕ → Defined → Type 0
Described M ts d q (Defined.Enum x s) =
    (vs : List ℕ) × Spans (name M) ts vs s × (s.end ≡ q) × (d ≡ record { name = x; body = Body.enum vs })
Described M ts d q (Defined.Record x s) =
    (fs : List Declared) × Spans (declaration M) ts fs s × (s.end ≡ q) × (d ≡ record { name = x; body = Body.fields fs })
Described M ts d q (Defined.Alias x p) = (t : Ty) × (ty M 8 ts p ≡ got t q) × (d ≡ record { name = x; body = Body.alias t })
