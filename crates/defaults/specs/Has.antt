-- Which definitions have a default, as a set.
use Rattle.std.specs.Prelude.{ℕ, ◌<◌, ◌≡◌, List, Bool, true, false, get_or}
use Rattle.std.proofs.Math.Option.{Option, none, some}
use Rattle.definitions.specs.Tree.{TypeDef}
use Rattle.definitions.specs.Types.{default_named}
use Rattle.layout.specs.Table.{name_at}

-- is there one?
abbrev pub is_some : {A : Type 0} → Option A → Bool
is_some none = false
is_some (some a) = true

-- the set says of each of n definitions whether its name has a default at most k definitions down
abbrev pub DefaultsKnown : List TypeDef → ℕ → ℕ → List Bool → Type 0
DefaultsKnown types n k has = (i : ℕ) → i < n → get_or has i false ≡ is_some (default_named types k (name_at types i))
