-- A `pre`, a `->` and a call whose operands are planned: their words, and what they need.
use Rattle.std.specs.Prelude.{ℕ, suc, ◌+◌, ◌*◌, ◌≤◌, ◌<◌, ◌≡◌, Bool, false, List, length, get_or, eqb, Result}
use Rattle.std.proofs.Math.Option.{Option, none, some}
use Rattle.definitions.specs.Lists.{choose}
use Rattle.definitions.specs.Bytes.{tokens}
use Rattle.definitions.specs.Tree.{Declared, TypeDef, Expr, Node}
use Rattle.definitions.specs.Reading.{got}
use Rattle.definitions.specs.Clock.{Clock, is_base}
use Rattle.definitions.specs.InferClocks.{Fault, no_output_default}
use Rattle.definitions.specs.Declock.{clock_place, add_with_parents, operand_type, operator_outputs}
use Rattle.clock_tables.specs.Flat.{clock_in}
use Rattle.operands.specs.Spread.{tree}
use Rattle.findings.specs.declared.Fault as value
use Rattle.index.specs.Callees.{NodesStand, TypesStand}
use Rattle.defaults.specs.Has.{is_some}
use Rattle.typing.specs.Found.{Declares}
use Rattle.stateless.specs.Yield.{gate_of}
use Rattle.stateless.specs.Faults.{pre_fault, gate_fault}
use Rattle.stateless.specs.Need.{Needs, is_bare, pre_turn, arrow_turn, call_turn, settled}
use Rattle.std.specs.declared.option.Option as code
use Rattle.std.specs.declared.option.Option.TheVariants.{None, Some}
use Rattle.plan.specs.Tables.{Arrays, Tables, Begun}
use Rattle.planned.specs.Held.{hold_at}
use Rattle.plan.specs.Planned.{Kept, Ended, no_hold}

-- the words: of a `->`, of a `pre` before which there are n holds, of a call of an operator or of anything else
abbrev pub arrow_word : Clock → List Clock → ℕ
arrow_word c cs = choose (is_base c) 0 (suc (clock_place c cs))

abbrev pub pre_word : Clock → Bool → ℕ → ℕ
pre_word c bare n = choose (is_base c) 0 (choose bare 0 (suc n))

abbrev pub call_word : Clock → Bool → List Clock → ℕ
call_word c operator cs = choose (is_base c) 0 (choose operator (suc (clock_place c cs)) 0)

-- the fault of a call of f, one of whose outputs may lack a default
abbrev pub lack_fault : ℕ → code.Option ℕ → Option Fault
lack_fault f None = none
lack_fault f (Some x) = some (no_output_default x f)

-- nothing but the word at p differs
abbrev pub Beside : List ℕ → List ℕ → ℕ → Type 0
Beside plan plan' p = (i : ℕ) → (i ≡ p → ⊥) → get_or plan' i 0 ≡ get_or plan i 0

-- a `->` at p, y being needed before
pub record Followed (s s' : Tables) (c : Clock) (y : Needs) (p : ℕ) : Type 0 where
  pub begun : Begun s' (settled (arrow_turn c) c y)
  pub beside : Beside s.plan s'.plan p
  pub held : s'.holds ≡ s.holds
  pub word : p < length s.plan → 17 * length (settled (arrow_turn c) c y).firsts ≤ length s'.firsts → length (settled (arrow_turn c) c y).firsts < 4294967295 → get_or s'.plan p 0 ≡ arrow_word c (settled (arrow_turn c) c y).firsts

-- a call at p
pub record Gated (s s' : Tables) (c : Clock) (operator : Bool) (y : Needs) (p : ℕ) : Type 0 where
  pub begun : Begun s' (settled (call_turn c operator) c y)
  pub beside : Beside s.plan s'.plan p
  pub held : s'.holds ≡ s.holds
  pub word : p < length s.plan → 17 * length (settled (call_turn c operator) c y).flags ≤ length s'.flags → length (settled (call_turn c operator) c y).flags < 4294967295 → get_or s'.plan p 0 ≡ call_word c operator (settled (call_turn c operator) c y).flags

-- a `pre` at p; the row of its hold
pub record Preceded (s s' : Tables) (c : Clock) (bare : Bool) (y : Needs) (p : ℕ) : Type 0 where
  pub begun : Begun s' (settled (pre_turn c bare) c y)
  pub beside : Beside s.plan s'.plan p
  pub kept : Kept no_hold s.holds s'.holds y.holds (settled (pre_turn c bare) c y).holds
  pub word : p < length s.plan → y.holds < 4294967295 → get_or s'.plan p 0 ≡ pre_word c bare y.holds
  pub row : is_base c ≡ false → bare ≡ false → p + 1 < 4294967296 → y.holds < 4294967295 → y.holds < length s.holds → 17 * length (add_with_parents c y.flags) ≤ length s'.flags → length (add_with_parents c y.flags) < 4294967296 → hold_at s'.holds y.holds ≡ record { at = p + 1; row = clock_place c (add_with_parents c y.flags) }

-- closing a call at p whose arguments end there; r is the answer
pub record ClosesCall (A : Arrays) (s s' : Tables) (end p : ℕ) (r : Result ℕ value.Fault) : Type 0 where
  pub close : (types : List TypeDef) (l : List Node) (node : Node) (y : Needs) → NodesStand A.names A.tags A.values A.places A.nodes l → TypesStand A.names A.tags A.values A.defs A.types A.has types → Begun s y →
      Ended end r (Gated s s' (clock_in A.sites (17 * p)) (is_some (operator_outputs l (get_or A.values p 0))) y p) (gate_fault types l node (get_or A.values p 0) (gate_of types l node (clock_in A.sites (17 * p)) (get_or A.values p 0)))

-- closing a `pre` at p whose operand ends there
pub record ClosesPrevious (A : Arrays) (s s' : Tables) (end p : ℕ) (r : Result ℕ value.Fault) : Type 0 where
  pub close : (e : Expr) (q : ℕ) (ds : List Declared) (y : Needs) → tree A.names (tokens A.tags A.values) (p + 1) ≡ got e q → (p + 1 < length A.tags) × (is_bare e ≡ eqb (get_or A.tags (p + 1) 0) 54) → Declares A.names (tokens A.tags A.values) A.typed ds → Begun s y →
      Ended end r (Preceded s s' (clock_in A.sites (17 * p)) (is_bare e) y p) (pre_fault (pre_turn (clock_in A.sites (17 * p)) (is_bare e)) (operand_type ds e))
