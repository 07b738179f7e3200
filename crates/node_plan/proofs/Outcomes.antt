-- What planning a node met, and what it left where it met no fault.
-- Assumes nothing.
use mathlib.Core.Path.{◌≡◌, refl, sym, ◌∙◌, ap, subst}
use mathlib.Core.Bool.{Bool, false}
use mathlib.Core.List.{List}
use mathlib.Core.Option.{Option, none, some}
use Prim.Native.Nat.{ℕ, ◌≤◌}
use lib.ListN.{length}
use Rattle.std.specs.Prelude.{Result, Ok, Err}
use Rattle.std.specs.Result.{IsErr, IsErrAnd}
use Rattle.std.proofs.lemmas.Result.{err_from_is_err_and}
use Rattle.definitions.specs.Bytes.{tokens}
use Rattle.definitions.specs.Tree.{TypeDef, Node}
use Rattle.definitions.specs.InferClocks.{NodeFault, Clocked}
use Rattle.findings.specs.declared.Found.{Found}
use Rattle.findings.specs.Value.{node_fault_of}
use Rattle.layout.specs.declared.NodeLayout.{NodeLayout}
use Rattle.layout.specs.Laid.{LaidNode}
use Rattle.clock_tables.proofs.RowsLaws.{has-none}
use Rattle.stateless.specs.declared.Counts.{Counts}
use Rattle.stateless.specs.Need.{Counted}
use Rattle.stateless.specs.Faults.{old_fault}
use Rattle.stateless.specs.Whole.{no_needs, old_needs}
use Rattle.skeleton.specs.Sites.{EquationsSited}
use Rattle.plan.specs.Tables.{Arrays, Tables, Begun}
use Rattle.plan.specs.Walks.{Setting, Known}
use Rattle.stateless.proofs.Growth.{leads-self}
use Rattle.plan.proofs.Walk.{Sized}
use Rattle.planned.specs.declared.HeldOperand.{HeldOperand}
use Rattle.node_plan.specs.Equations.{EquationsNoted, EndedAll, WalksEquations}
use Rattle.node_plan.specs.Outcomes.{PlansNode}

-- ---- by the first fault
ends-met : {q : ℕ} {r : Result ℕ Found} {P : Type 0} {o : Option NodeFault} → EndedAll q r P o → (g : Found) → r ≡ Err g → some (node_fault_of g) ≡ o
ends-met {r = r} (EndedAll.goes h e) g i = let z : ◌≡◌ {A = Result ℕ Found} (Ok _) (Err g) = sym e ∙ i in absurd cc
ends-met {r = r} (EndedAll.stops t j e) g i = let z : ◌≡◌ {A = Result ℕ Found} (Err g) (Err t) = sym i ∙ e in let w : g ≡ t = cc in ap (λ (x : Found). some (node_fault_of x)) w ∙ ap some j

ends-goes : {q : ℕ} {r : Result ℕ Found} {P : Type 0} {o : Option NodeFault} → EndedAll q r P o → (x : ℕ) → r ≡ Ok x → P × (none ≡ o)
ends-goes (EndedAll.goes h e) x i = (h, refl)
ends-goes (EndedAll.stops t j e) x i = let z : ◌≡◌ {A = Result ℕ Found} (Ok x) (Err t) = sym i ∙ e in absurd cc

-- nothing is needed before
pub begun-none : (flags firsts : List ℕ) → Counted flags firsts (record { flags = 0; firsts = 0; holds = 0; condact = false }) no_needs
begun-none flags firsts = record { flagged = has-none flags; first-flagged = has-none firsts; held = refl; gated = refl }

-- ---- the node
module _ (A : Arrays) (condact : ℕ) (s s' : Tables) (Z : Sized s s') (l : NodeLayout) (r : Result ℕ Found) (E : WalksEquations A condact s s' l.equations.count l.equations.at 0 r) (B : Begun s no_needs)
    (types : List TypeDef) (nodes : List Node) (node : Node) (u : ℕ) (cs : List Clocked) (N : LaidNode A.names (tokens A.tags A.values) node u l) where
  abbrev setting : Setting
  setting = record { types = types; nodes = nodes; node = node; flag_room = length s'.flags; first_room = length s'.firsts; hold_room = length s'.holds }

  module _ (K : Known A setting) (S : EquationsSited A.names A.tags A.values A.sites cs l.equations.at l.equations.end) (n : length cs ≡ l.equations.count) (room : length A.tags ≤ length s.plan) where
    ended : EndedAll l.equations.end r (EquationsNoted A setting condact s s' no_needs cs l.equations.at l.equations.end) (old_fault types nodes node condact 0 cs)
    ended = E.walk setting u l N cs l.equations.end no_needs n K (record { plan = room; flags = sym Z.flags; firsts = sym Z.firsts; holds = sym Z.holds }) S B

    abbrev Plans : Result Counts Found → Type 0
    Plans a = PlansNode A.names A.tags A.values s'.plan s'.flags s'.firsts s'.holds A.typed types nodes node condact cs l.equations.at l.equations.end a

    -- a fault was met
    pub plans-fault : (g : Found) → r ≡ Err g → (a : Result Counts Found) → IsErr a × IsErrAnd a (λ y. y ≡ g) → Plans a
    plans-fault g i a e =
        let p = err_from_is_err_and a e.1 in
        let f : a ≡ Err g = rw (p.1, p.2) in
        subst Plans (sym f) (record { met = ends-met ended g i; planned = λ t z. absurd (err-ok g t z) })
      where
        err-ok : (g : Found) (t : Counts) → ◌≡◌ {A = Result Counts Found} (Err g) (Ok t) → ⊥
        err-ok g t z = cc

    -- none was
    pub plans-whole : (x : ℕ) → r ≡ Ok x → (f m h : ℕ) (b : Bool) → f ≡ s'.counts.flags → m ≡ s'.counts.firsts → h ≡ s'.counts.holds → b ≡ s'.counts.condact → Plans (Ok (record { flags = f; firsts = m; holds = h; condact = b }))
    plans-whole x i f m h b j k n o =
        let a : Counts = record { flags = f; firsts = m; holds = h; condact = b } in
        let e : a ≡ s'.counts = rw (j, k, n, o) in
        let w = old_needs types nodes node condact cs no_needs in
        let G = ends-goes ended x i in
        let P = G.0 in
        record {
          met = G.1;
          planned = λ t z. record {
            declares = K.declares;
            counted = subst (λ (k : Counts). Counted s'.flags s'.firsts k w) (sym e ∙ same a t z) P.begun;
            planned = λ x F f H W. P.say w x F f H W (leads-self w) s'.plan (λ i a b. refl);
            held = λ x F f H W. P.hold w x F f H W (leads-self w) s'.plan s'.holds (λ i a b. refl) (λ i a b. refl);
          };
        }
      where
        same : (a t : Counts) → ◌≡◌ {A = Result Counts Found} (Ok a) (Ok t) → a ≡ t
        same a t z = cc

-- the tables are those that are lent
pub plans-lent : {M : ℕ} {gs vs plan flags firsts plan' flags' firsts' typed : List ℕ} {holds holds' : List HeldOperand} {types : List TypeDef} {nodes : List Node} {node : Node} {condact : ℕ} {cs : List Clocked} {p q : ℕ} {a : Result Counts Found} → PlansNode M gs vs plan flags firsts holds typed types nodes node condact cs p q a
    → plan' ≡ plan → flags' ≡ flags → firsts' ≡ firsts → holds' ≡ holds → PlansNode M gs vs plan' flags' firsts' holds' typed types nodes node condact cs p q a
plans-lent P e f g h = rw (e, f, g, h) P
