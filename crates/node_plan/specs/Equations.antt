-- A walk over equations, from one state of the tables to another.
use Rattle.std.specs.Prelude.{ℕ, ◌≡◌, List, length, Result, Ok, Err}
use Rattle.std.proofs.Math.Option.{Option, none, some}
use Rattle.definitions.specs.Bytes.{tokens}
use Rattle.definitions.specs.Tree.{Equation}
use Rattle.definitions.specs.Clock.{Clock}
use Rattle.definitions.specs.InferClocks.{NodeFault, Clocked}
use Rattle.findings.specs.declared.Found as value
use Rattle.findings.specs.declared.Fault as given
use Rattle.findings.specs.Value.{node_fault_of}
use Rattle.layout.specs.declared.NodeLayout.{NodeLayout}
use Rattle.layout.specs.Laid.{LaidNode}
use Rattle.stateless.specs.Need.{Needs}
use Rattle.stateless.specs.Leads.{Leads}
use Rattle.stateless.specs.Yield.{right_yield, old_yield}
use Rattle.stateless.specs.Faults.{right_fault, old_fault}
use Rattle.stateless.specs.Whole.{right_needs, old_needs}
use Rattle.stateless.specs.Locals.{ids_in}
use Rattle.skeleton.specs.Sites.{EquationSited, EquationsSited}
use Rattle.planned.specs.Held.{HeldFrom}
use Rattle.plan.specs.Tables.{Arrays, Tables, Begun}
use Rattle.planned.specs.declared.HeldOperand.{HeldOperand}
use Rattle.plan.specs.Planned.{Whole, Agrees, Kept, writer, Ended, no_hold}
use Rattle.plan.specs.Walks.{Setting, ground_of, Known, Roomy}
use Rattle.planned.specs.Planned.{EquationPlanned, EquationsPlanned}

module _ (A : Arrays) (T : Setting) (condact : ℕ) where
  -- the equation at p up to q on this clock is planned, y being needed before
  pub record EquationNoted (s s' : Tables) (y : Needs) (c : Clock) (e : Equation) (p q : ℕ) : Type 0 where
    pub begun : Begun s' (right_needs T.types T.nodes T.node condact c e.left e.right y)
    pub kept : Kept 0 s.plan s'.plan p q
    pub held : Kept no_hold s.holds s'.holds y.holds (right_needs T.types T.nodes T.node condact c e.left e.right y).holds
    pub say : (w : Needs) (x : ℕ) (flag_ids first_ids hold_ids : List ℕ) → Whole T.flag_room T.first_room T.hold_room w → Leads (right_needs T.types T.nodes T.node condact c e.left e.right y) w → (plan'' : List ℕ) → Agrees 0 s'.plan plan'' p q →
        EquationPlanned A.names A.tags A.values (writer (ground_of A T) x flag_ids first_ids hold_ids) plan'' condact (ids_in w.flags w.firsts flag_ids first_ids hold_ids x) y.holds c e p q
    pub hold : (w : Needs) (x : ℕ) (flag_ids first_ids hold_ids : List ℕ) → Whole T.flag_room T.first_room T.hold_room w → Leads (right_needs T.types T.nodes T.node condact c e.left e.right y) w → (plan'' : List ℕ) (holds'' : List HeldOperand) → Agrees 0 s'.plan plan'' p q →
        Agrees no_hold s'.holds holds'' y.holds (right_needs T.types T.nodes T.node condact c e.left e.right y).holds →
        HeldFrom A.names A.tags A.values (writer (ground_of A T) x flag_ids first_ids hold_ids) plan'' holds'' y.holds (right_yield T.types T.nodes T.node (ids_in w.flags w.firsts flag_ids first_ids hold_ids x) c e.left y.holds e.right).holds

  -- the equations from p up to q
  pub record EquationsNoted (s s' : Tables) (y : Needs) (cs : List Clocked) (p q : ℕ) : Type 0 where
    pub begun : Begun s' (old_needs T.types T.nodes T.node condact cs y)
    pub kept : Kept 0 s.plan s'.plan p q
    pub held : Kept no_hold s.holds s'.holds y.holds (old_needs T.types T.nodes T.node condact cs y).holds
    pub say : (w : Needs) (x : ℕ) (flag_ids first_ids hold_ids : List ℕ) → Whole T.flag_room T.first_room T.hold_room w → Leads (old_needs T.types T.nodes T.node condact cs y) w → (plan'' : List ℕ) → Agrees 0 s'.plan plan'' p q →
        EquationsPlanned A.names A.tags A.values (writer (ground_of A T) x flag_ids first_ids hold_ids) plan'' condact (ids_in w.flags w.firsts flag_ids first_ids hold_ids x) y.holds cs p q
    pub hold : (w : Needs) (x : ℕ) (flag_ids first_ids hold_ids : List ℕ) → Whole T.flag_room T.first_room T.hold_room w → Leads (old_needs T.types T.nodes T.node condact cs y) w → (plan'' : List ℕ) (holds'' : List HeldOperand) → Agrees 0 s'.plan plan'' p q →
        Agrees no_hold s'.holds holds'' y.holds (old_needs T.types T.nodes T.node condact cs y).holds →
        HeldFrom A.names A.tags A.values (writer (ground_of A T) x flag_ids first_ids hold_ids) plan'' holds'' y.holds (old_yield T.types T.nodes T.node (ids_in w.flags w.firsts flag_ids first_ids hold_ids x) y.holds cs).holds

-- by the first fault: there is none, and the answer is the end; or the answer is the fault with its equation
pub data EndedAll (end : ℕ) (r : Result ℕ value.Found) (P : Type 0) : Option NodeFault → Type 0 where
  goes : P → r ≡ Ok end → EndedAll end r P none
  stops : {f : NodeFault} (g : value.Found) → node_fault_of g ≡ f → r ≡ Err g → EndedAll end r P (some f)

-- over the equation at p; x is the answer
pub record WalksEquation (A : Arrays) (condact : ℕ) (s s' : Tables) (p : ℕ) (x : Result ℕ given.Fault) : Type 0 where
  pub walk : (T : Setting) (end : ℕ) (lay : NodeLayout) → LaidNode A.names (tokens A.tags A.values) T.node end lay → (c : Clock) (e : Equation) (q : ℕ) (y : Needs) → Known A T → Roomy A T s → EquationSited A.names A.tags A.values A.sites c e p q → Begun s y →
      Ended q x (EquationNoted A T condact s s' y c e p q) (right_fault T.types T.nodes T.node condact c e.left e.right)

-- over n equations from p on, the first being equation i
pub record WalksEquations (A : Arrays) (condact : ℕ) (s s' : Tables) (n p i : ℕ) (r : Result ℕ value.Found) : Type 0 where
  pub walk : (T : Setting) (end : ℕ) (lay : NodeLayout) → LaidNode A.names (tokens A.tags A.values) T.node end lay → (cs : List Clocked) (q : ℕ) (y : Needs) → length cs ≡ n → Known A T → Roomy A T s → EquationsSited A.names A.tags A.values A.sites cs p q → Begun s y →
      EndedAll q r (EquationsNoted A T condact s s' y cs p q) (old_fault T.types T.nodes T.node condact i cs)
