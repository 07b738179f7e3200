-- What an equation under the flag of its clock meets and needs.
use Rattle.std.specs.Prelude.{ℕ, suc, ◌*◌, ◌≤◌, ◌<◌, ◌≡◌, Bool, true, false, List, eqb, length, get_or, Result, Ok, Err}
use Rattle.std.proofs.Math.Option.{Option, none, some}
use Rattle.definitions.specs.Lists.{choose}
use Rattle.definitions.specs.Bytes.{tokens}
use Rattle.definitions.specs.Tree.{TypeDef, Node}
use Rattle.definitions.specs.Clock.{Clock}
use Rattle.definitions.specs.InferClocks.{Fault}
use Rattle.findings.specs.declared.Fault as value
use Rattle.findings.specs.Value.{fault_of}
use Rattle.definitions.specs.Declock.{Shape, bare, other, calls, clock_place, add_with_parents, declared}
use Rattle.layout.specs.declared.NodeLayout.{NodeLayout}
use Rattle.layout.specs.Laid.{LaidNode}
use Rattle.index.specs.Callees.{TypesStand}
use Rattle.typing.specs.Found.{Declares}
use Rattle.stateless.specs.Need.{Needs, with_flag, with_gate}
use Rattle.plan.specs.Tables.{Arrays, Tables, Begun}
use Rattle.plan.specs.Closed.{Beside}

-- the fault that is met
abbrev pub told_of : Result Unit value.Fault → Option Fault
told_of (Ok u) = none
told_of (Err f) = some (fault_of f)

-- a call is gated, but "a call by then named `condact` stays as it is"
abbrev pub gates_call : ℕ → Shape → Bool
gates_call condact bare = false
gates_call condact other = false
gates_call condact (calls f) = choose (eqb f condact) false true

-- a right side with n left names: a single one holds its value
abbrev pub gates_right : ℕ → ℕ → Shape → Bool
gates_right condact n u = choose (eqb n 1) false (gates_call condact u)

-- the types of a sheet and of the names of a node
pub record Typed (A : Arrays) (types : List TypeDef) (node : Node) : Type 0 where
  pub end : ℕ
  pub layout : NodeLayout
  pub laid : LaidNode A.names (tokens A.tags A.values) node end layout
  pub typed : TypesStand A.names A.tags A.values A.defs A.types A.has types
  pub declares : Declares A.names (tokens A.tags A.values) A.typed (declared node)

-- an equation at p on this clock, with so many left names, gated or not
pub record Flagged (s s' : Tables) (c : Clock) (n : ℕ) (gated : Bool) (y : Needs) (p : ℕ) : Type 0 where
  pub begun : Begun s' (choose gated (with_gate c y) (with_flag c y))
  pub beside : Beside s.plan s'.plan p
  pub held : s'.holds ≡ s.holds
  pub word : p < length s.plan → 17 * length (add_with_parents c y.flags) ≤ length s'.flags → length (add_with_parents c y.flags) < 4294967295 → get_or s'.plan p 0 ≡ choose gated (suc (clock_place c (add_with_parents c y.flags))) (choose (eqb n 1) (suc (clock_place c (add_with_parents c y.flags))) 0)
