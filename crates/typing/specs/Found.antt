-- The type that an answer says.
use Rattle.std.specs.Prelude.{ℕ, ◌<◌, ◌≡◌, List, get_or}
use Rattle.std.proofs.Math.Option.{Option, none, some}
use Rattle.definitions.specs.Tokens.{TagValue}
use Rattle.definitions.specs.Tree.{Ty, Declared}
use Rattle.definitions.specs.Reading.{got}
use Rattle.definitions.specs.Grammar.{ty}
use Rattle.definitions.specs.Declock.{last_type}
use Rattle.clock_tables.specs.Words.{place_of}
use Rattle.typing.specs.declared.TypeFound.{TypeFound}
use Rattle.std.specs.Option.{option_map}
use Rattle.std.specs.declared.option.Option as code
use Rattle.std.specs.declared.option.Option.TheVariants.{None, Some}

-- the answer is this type, read at its place; or there is none
unfoldable pub IsFound : ℕ → List TagValue → Option Ty → code.Option TypeFound → Type 0
IsFound M ts none (Some (TypeFound.At p)) = ⊥
IsFound M ts none (Some (TypeFound.Basic k)) = ⊥
IsFound M ts none None = Unit {0}
IsFound M ts (some t) (Some (TypeFound.At p)) = (d : ℕ) × (q : ℕ) × (ty M d ts p ≡ got t q)
IsFound M ts (some t) (Some (TypeFound.Basic k)) = t ≡ Ty.primitive k
IsFound M ts (some t) None = ⊥

-- what a name's word says: the type that stands there
abbrev pub found_by : ℕ → code.Option TypeFound
found_by w = option_map TypeFound.At (place_of w)

-- the table has the type of the last declaration of each name
pub record Declares (M : ℕ) (ts : List TagValue) (t : List ℕ) (ds : List Declared) : Type 0 where
  pub each : (x : ℕ) → x < M → IsFound M ts (last_type ds x) (found_by (get_or t x 0))
