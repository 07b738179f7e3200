-- What `inspect` says of a type's definition.
use Rattle.std.specs.Prelude.{ℕ, length}
use Rattle.definitions.specs.Tree.{Body, TypeDef}
use Rattle.inspect.specs.declared.TypeKind.{TypeKind}
use Rattle.inspect.specs.declared.TypeSummary.{TypeSummary}

abbrev pub body_kind : Body → TypeKind
body_kind (Body.enum vs) = TypeKind.Enum
body_kind (Body.fields fs) = TypeKind.Record
body_kind (Body.alias t) = TypeKind.Alias

-- how many variants or fields, 1 for an alias
abbrev pub body_count : Body → ℕ
body_count (Body.enum vs) = length vs
body_count (Body.fields fs) = length fs
body_count (Body.alias t) = 1

abbrev pub type_summary : TypeDef → TypeSummary
type_summary d = record { name = d.name; kind = body_kind d.body; count = body_count d.body }
