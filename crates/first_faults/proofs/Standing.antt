-- A sheet that stands, by its index.
-- Assumes nothing.
use Prim.Native.Nat.{ℕ}
use mathlib.Core.Path.{◌≡◌, sym, ap, ◌∙◌, subst}
use Rattle.definitions.specs.Bytes.{cut}
use Rattle.definitions.specs.Reading.{got}
use Rattle.definitions.specs.Grammar.{sheet}
use Rattle.definitions.specs.Output.{condact_id}
use Rattle.definitions.specs.Answer.{Input}
use Rattle.grammar.specs.declared.source.Source.{Source}
use Rattle.grammar.specs.Read.{tokens_of}
use Rattle.spelling.specs.declared.sheet_names.SheetNames.{SheetNames}
use Rattle.query.specs.Standing.{Standing}
use Rattle.workspace.specs.declared.Working.{Working}
use Rattle.workspace.specs.Room.{RoomToPlan}
use Rattle.index.specs.declared.Index.{Index}
use Rattle.index.specs.Indexed.{Indexed}
use Rattle.first_faults.specs.Faults.{RoomIn}

-- with its lengths, by the id of `condact` among its names: it is indexed, and there is room to plan its nodes
pub stands-in : {s : Source} {t : Index} {x : ℕ} → t.source ≡ s → ((i : Input) (q : ℕ) → sheet s.names (tokens_of s) 0 ≡ got i.sheet q → x ≡ condact_id i.names → Indexed t i) → (names : SheetNames) → x ≡ condact_id (cut names.lengths.now names.spelling.letters.now)
    → {i : Input} {w : Working} → Standing names.spelling s i → i.names ≡ cut names.lengths.now names.spelling.letters.now → RoomToPlan s w → Indexed t i × RoomIn t w
stands-in same indexed names id {i} {w} stands named room = (indexed i _ stands.tree (id ∙ ap condact_id (sym named)), subst (λ (s : Source). RoomToPlan s w) (sym same) room)
