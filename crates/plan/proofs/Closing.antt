-- A `->`, a call and a `pre` whose operands are planned: their words, and what they need.
-- Assumes nothing.
use mathlib.Core.Path.{◌≡◌, refl, sym, ◌∙◌, ap, subst}
use mathlib.Core.Bool.{Bool, true, false, false≢true, true≢false}
use mathlib.Core.List.{List}
use mathlib.Core.Logic.{◌⊎◌, inl, inr}
use mathlib.Core.Option.{Option, none, some}
use Prim.Native.Nat.{ℕ, suc, ◌+◌, ◌*◌, ◌≤◌, ◌<◌}
use native.Mathlib.Omega.{arith}
use lib.ListN.{length, get_or, set}
use lib.Seq.{get_or-set_same, get_or-set_other}
use Rattle.definitions.specs.Tree.{Ty, Declared, TypeDef, Node}
use Rattle.definitions.specs.Clock.{Clock, is_base, same_clock}
use Rattle.definitions.specs.InferClocks.{Fault, no_output_default, pre_untyped}
use Rattle.findings.specs.declared.Fault as value
use Rattle.findings.specs.Value.{fault_of}
use Rattle.std.specs.Prelude.{Ok, Err}
use Rattle.definitions.specs.Declock.{clock_place, add, add_with_parents, operator_outputs}
use Rattle.clock_tables.specs.Rows.{RowsHold}
use Rattle.layout.proofs.TypedefsLaws.{place-few}
use Rattle.defaults.specs.Has.{is_some}
use Rattle.stateless.specs.Need.{Turn, Needs, pre_turn, settled}
use Rattle.stateless.specs.Yield.{gate_of}
use Rattle.stateless.specs.Faults.{pre_fault, outputs_fault, gate_fault}
use Rattle.plan.specs.Tables.{Tables, Begun}
use Rattle.planned.specs.declared.HeldOperand.{HeldOperand}
use Rattle.planned.specs.Held.{hold_at}
use Rattle.plan.specs.Planned.{Kept, Ended, no_hold}
use Rattle.plan.specs.Closed.{Beside, Followed, Gated, Preceded}

has-fits : (t : List ℕ) (n : ℕ) (cs : List Clock) → 17 * length cs ≤ length t → RowsHold t n cs → 17 * n ≤ length t
unfolding RowsHold
has-fits t n cs h (inl (a, e)) = a
has-fits t n cs h (inr (a, b)) = absurd (omega arith)

-- the word that was put there
module _ (plan plan' : List ℕ) (p w : ℕ) (e : plan' ≡ set plan p w) where
  pub beside : Beside plan plan' p
  beside i h = ap (λ (l : List ℕ). get_or l i 0) e ∙ get_or-set_other plan p i w 0 h

  pub there : p < length plan → get_or plan' p 0 ≡ w
  there h = ap (λ (l : List ℕ). get_or l p 0) e ∙ get_or-set_same plan p w 0 h

-- ---- by the fault that is met
pub ended-none : (end : ℕ) (P : Type 0) (o : Option Fault) → o ≡ none → P → Ended end (Ok end) P o
ended-none end P o i h = subst (λ (x : Option Fault). Ended end (Ok end) P x) (sym i) (Ended.goes h refl)

pub ended_some : (end : ℕ) (P : Type 0) (o : Option Fault) (f : Fault) (g : value.Fault) → o ≡ some f → fault_of g ≡ f → Ended end (Err g) P o
ended_some end P o f g i h = subst (λ (x : Option Fault). Ended end (Err g) P x) (sym i) (Ended.stops g h refl)

-- ---- nothing is needed
module _ (s : Tables) (plan' : List ℕ) (p : ℕ) (e : plan' ≡ set s.plan p 0) where
  call-base : (c : Clock) → is_base c ≡ true → (o : Bool) (y : Needs) → Begun s y → Gated s (record s { plan = plan' }) c o y p
  call-base c k o y B = record { begun = rw k B; beside = beside s.plan plan' p 0 e; held = refl; word = λ f g m. there s.plan plan' p 0 e f ∙ rw k }

  call-other : (c : Clock) → is_base c ≡ false → (o : Bool) → o ≡ false → (y : Needs) → Begun s y → Gated s (record s { plan = plan' }) c o y p
  call-other c k o z y B = record { begun = rw (k, z) B; beside = beside s.plan plan' p 0 e; held = refl; word = λ f g m. there s.plan plan' p 0 e f ∙ rw (k, z) }

  pre-base : (c : Clock) → is_base c ≡ true → (bare : Bool) (y : Needs) → Begun s y → Preceded s (record s { plan = plan' }) c bare y p
  pre-base c k bare y B = record { begun = rw k B; beside = beside s.plan plan' p 0 e; kept = λ i h. refl; word = λ f g. there s.plan plan' p 0 e f ∙ rw k; row = λ z. absurd (true≢false (sym k ∙ z)) }

  pre-bare : (c : Clock) → is_base c ≡ false → (bare : Bool) → bare ≡ true → (y : Needs) → Begun s y → Preceded s (record s { plan = plan' }) c bare y p
  pre-bare c k bare b y B = record { begun = rw (k, b) B; beside = beside s.plan plan' p 0 e; kept = λ i h. refl; word = λ f g. there s.plan plan' p 0 e f ∙ rw (k, b); row = λ z v. absurd (true≢false (sym b ∙ v)) }

-- the row that is found
module _ (rows : List ℕ) (n i w : ℕ) (d : Clock) (finds : (cs : List Clock) → 17 * n ≤ length rows → RowsHold rows n cs → i ≡ clock_place d cs) where
  pub row-found : (cs : List Clock) → RowsHold rows n cs → 17 * length cs ≤ length rows → i ≡ clock_place d cs
  row-found cs h f = finds cs (has-fits rows n cs f h) h

  pub row-least : (cs : List Clock) → RowsHold rows n cs → 17 * length cs ≤ length rows → i ≤ length cs
  row-least cs h f = omega (arith, row-found cs h f, place-few (same_clock d) cs)

-- ---- a `->` on a clock
pub follow-clock : (s : Tables) (plan' flags' firsts' : List ℕ) (p w n m i : ℕ) → plan' ≡ set s.plan p w → (i < 4294967295 → w ≡ suc i) → (d c : Clock) → d ≡ c → is_base c ≡ false →
    ((cs : List Clock) → RowsHold s.flags s.counts.flags cs → RowsHold flags' n (add_with_parents d cs)) → ((cs : List Clock) → RowsHold s.firsts s.counts.firsts cs → RowsHold firsts' m (add d cs)) →
    ((cs : List Clock) → 17 * m ≤ length firsts' → RowsHold firsts' m cs → i ≡ clock_place d cs) → (y : Needs) → Begun s y →
    Followed s (record { plan = plan'; flags = flags'; firsts = firsts'; holds = s.holds; counts = record { flags = n; firsts = m; holds = s.counts.holds; condact = s.counts.condact } }) c y p
follow-clock s plan' flags' firsts' p w n m i e word d c j b A F finds y B = subst (λ (x : Clock). is_base x ≡ false → Followed s s' x y p) j go b
  where
    s' : Tables
    s' = record { plan = plan'; flags = flags'; firsts = firsts'; holds = s.holds; counts = record { flags = n; firsts = m; holds = s.counts.holds; condact = s.counts.condact } }

    go : is_base d ≡ false → Followed s s' d y p
    go k =
        let D : Begun s' (settled Turn.First d y) = record { flagged = A y.flags B.flagged; first-flagged = F y.firsts B.first-flagged; held = B.held; gated = B.gated } in
        let found = row-found firsts' m i w d finds (add d y.firsts) D.first-flagged in
        let least = row-least firsts' m i w d finds (add d y.firsts) D.first-flagged in
        let told : p < length s.plan → 17 * length (add d y.firsts) ≤ length firsts' → length (add d y.firsts) < 4294967295 → get_or plan' p 0 ≡ suc (clock_place d (add d y.firsts)) =
        λ f g o. there s.plan plan' p w e f ∙ (word (omega (arith, least g)) ∙ ap suc (found g)) in
        record { begun = rw k D; beside = beside s.plan plan' p w e; held = refl; word = rw k told }

-- ---- a call that is gated
pub gate-clock : (s : Tables) (plan' flags' : List ℕ) (p w n i : ℕ) → plan' ≡ set s.plan p w → (i < 4294967295 → w ≡ suc i) → (d c : Clock) → d ≡ c → is_base c ≡ false →
    ((cs : List Clock) → RowsHold s.flags s.counts.flags cs → RowsHold flags' n (add_with_parents d cs)) → ((cs : List Clock) → 17 * n ≤ length flags' → RowsHold flags' n cs → i ≡ clock_place d cs) →
    (y : Needs) → Begun s y → Gated s (record { plan = plan'; flags = flags'; firsts = s.firsts; holds = s.holds; counts = record { flags = n; firsts = s.counts.firsts; holds = s.counts.holds; condact = true } }) c true y p
gate-clock s plan' flags' p w n i e word d c j b A finds y B = subst (λ (x : Clock). is_base x ≡ false → Gated s s' x true y p) j go b
  where
    s' : Tables
    s' = record { plan = plan'; flags = flags'; firsts = s.firsts; holds = s.holds; counts = record { flags = n; firsts = s.counts.firsts; holds = s.counts.holds; condact = true } }

    go : is_base d ≡ false → Gated s s' d true y p
    go k =
        let D : Begun s' (settled Turn.Gate d y) = record { flagged = A y.flags B.flagged; first-flagged = B.first-flagged; held = B.held; gated = refl } in
        let found = row-found flags' n i w d finds (add_with_parents d y.flags) D.flagged in
        let least = row-least flags' n i w d finds (add_with_parents d y.flags) D.flagged in
        let told : p < length s.plan → 17 * length (add_with_parents d y.flags) ≤ length flags' → length (add_with_parents d y.flags) < 4294967295 → get_or plan' p 0 ≡ suc (clock_place d (add_with_parents d y.flags)) =
        λ f g o. there s.plan plan' p w e f ∙ (word (omega (arith, least g)) ∙ ap suc (found g)) in
        record { begun = rw k D; beside = beside s.plan plan' p w e; held = refl; word = rw k told }

-- ---- a `pre` that is held
module _ (s : Tables) (flags' : List ℕ) (p n : ℕ) (d : Clock) (A : (cs : List Clock) → RowsHold s.flags s.counts.flags cs → RowsHold flags' n (add_with_parents d cs)) (y : Needs) (B : Begun s y) where
  -- its place and its row
  module _ (i : ℕ) (finds : (cs : List Clock) → 17 * n ≤ length flags' → RowsHold flags' n cs → i ≡ clock_place d cs) (plan' : List ℕ) (holds' : List HeldOperand) (j k₁ w : ℕ) (one : HeldOperand) (c : j ≡ s.counts.holds) (more : k₁ ≡ j + 1) (o : j < 4294967295) (e : plan' ≡ set s.plan p w) (word : w ≡ suc j)
      (f : holds' ≡ set s.holds j one) (stored : p + 1 < 4294967296 → i < 4294967296 → one ≡ record { at = p + 1; row = i }) where
    s' : Tables
    s' = record { plan = plan'; flags = flags'; firsts = s.firsts; holds = holds'; counts = record { flags = n; firsts = s.counts.firsts; holds = k₁; condact = s.counts.condact } }

    alike : j ≡ y.holds
    alike = let h = B.held in omega arith

    apart : Kept no_hold s.holds holds' y.holds (y.holds + 1)
    apart k m = ap (λ (l : List HeldOperand). hold_at l k) f ∙ get_or-set_other s.holds j k one _ (λ z. out k m (omega (arith, alike)) (omega (arith, alike)))
      where
        out : (k : ℕ) → (k < y.holds) ⊎ (y.holds + 1 ≤ k) → y.holds ≤ k → k < y.holds + 1 → ⊥
        out k (inl u) m v = omega arith
        out k (inr u) m v = omega arith

    hold-one : is_base d ≡ false → Preceded s s' d false y p
    unfolding s'
    hold-one k =
        let h = B.held in
        let m = alike in
        let D : Begun s' (settled Turn.Hold d y) = record { flagged = A y.flags B.flagged; first-flagged = B.first-flagged; held = omega arith; gated = B.gated } in
        let found = row-found flags' n i w d finds (add_with_parents d y.flags) D.flagged in
        let least = row-least flags' n i w d finds (add_with_parents d y.flags) D.flagged in
        let told : p < length s.plan → y.holds < 4294967295 → get_or plan' p 0 ≡ suc y.holds = λ u v. there s.plan plan' p w e u ∙ (word ∙ ap suc m) in
        let rows : p + 1 < 4294967296 → y.holds < length s.holds → 17 * length (add_with_parents d y.flags) ≤ length flags' → length (add_with_parents d y.flags) < 4294967296 → hold_at holds' y.holds ≡ record { at = p + 1; row = clock_place d (add_with_parents d y.flags) } =
        λ u v x t. ap (hold_at holds') (sym m) ∙ (ap (λ (l : List HeldOperand). hold_at l j) f ∙ (get_or-set_same s.holds j one _ (omega arith) ∙ (stored u (omega (arith, least x)) ∙ ap {B = HeldOperand} (λ r. record { at = p + 1; row = r }) (found x)))) in
        record { begun = rw k D; beside = beside s.plan plan' p w e; kept = rw k apart; word = rw k told; row = λ z v u l g x t. rows u g x t }

    pub hold-next : (x : Clock) → d ≡ x → is_base x ≡ false → Preceded s (record { plan = plan'; flags = flags'; firsts = s.firsts; holds = holds'; counts = record { flags = n; firsts = s.counts.firsts; holds = k₁; condact = s.counts.condact } }) x false y p
    unfolding s'
    hold-next x g k = subst (λ (z : Clock). is_base z ≡ false → Preceded s s' z false y p) g hold-one k

-- ---- the four ends of a `pre`
module _ (s : Tables) (plan' : List ℕ) (p : ℕ) (e : plan' ≡ set s.plan p 0) (c : Clock) (end : ℕ) where
  pub previous-base : is_base c ≡ true → (bare : Bool) (o : Option Ty) (y : Needs) → Begun s y → Ended end (Ok end) (Preceded s (record s { plan = plan' }) c bare y p) (pre_fault (pre_turn c bare) o)
  previous-base k bare o y B = ended-none end _ _ (rw k) (pre-base s plan' p e c k bare y B)

  pub previous-bare : is_base c ≡ false → (bare : Bool) → bare ≡ true → (o : Option Ty) (y : Needs) → Begun s y → Ended end (Ok end) (Preceded s (record s { plan = plan' }) c bare y p) (pre_fault (pre_turn c bare) o)
  previous-bare k bare b o y B = ended-none end _ _ (rw (k, b)) (pre-bare s plan' p e c k bare b y B)

held-fault : (o : Option Ty) → is_some o ≡ true → pre_fault Turn.Hold o ≡ none
held-fault none h = absurd (false≢true h)
held-fault (some t) h = refl

pub previous-held : (s s' : Tables) (p : ℕ) (c : Clock) (end : ℕ) → is_base c ≡ false → (bare : Bool) → bare ≡ false → (o : Option Ty) → is_some o ≡ true → (y : Needs) → Preceded s s' c false y p →
    Ended end (Ok end) (Preceded s s' c bare y p) (pre_fault (pre_turn c bare) o)
previous-held s s' p c end k bare b o t y P = ended-none end _ _ (rw (k, b) (held-fault o t)) (subst (λ (z : Bool). Preceded s s' c z y p) (sym b) P)

untyped-fault : (o : Option Ty) → is_some o ≡ false → pre_fault Turn.Hold o ≡ some pre_untyped
untyped-fault none h = refl
untyped-fault (some t) h = absurd (true≢false h)

pub previous-untyped : (P : Type 0) (end : ℕ) (c : Clock) → is_base c ≡ false → (bare : Bool) → bare ≡ false → (o : Option Ty) → is_some o ≡ false → Ended end (Err value.Fault.PreUntyped) P (pre_fault (pre_turn c bare) o)
previous-untyped P end c k bare b o t = ended_some end P _ pre_untyped value.Fault.PreUntyped (rw (k, b) (untyped-fault o t)) refl

-- ---- the ends of a call of f
module _ (types : List TypeDef) (l : List Node) (node : Node) (s : Tables) (p f : ℕ) (c : Clock) (end : ℕ) where
  pub call-plain : (plan' : List ℕ) → plan' ≡ set s.plan p 0 → is_base c ≡ true → (o : Bool) (y : Needs) → Begun s y → Ended end (Ok end) (Gated s (record s { plan = plan' }) c o y p) (gate_fault types l node f (gate_of types l node c f))
  call-plain plan' e k o y B = ended-none end _ _ (rw k) (call-base s plan' p e c k o y B)

  pub call-function : (plan' : List ℕ) → plan' ≡ set s.plan p 0 → is_base c ≡ false → operator_outputs l f ≡ none → (y : Needs) → Begun s y → Ended end (Ok end) (Gated s (record s { plan = plan' }) c (is_some (operator_outputs l f)) y p) (gate_fault types l node f (gate_of types l node c f))
  call-function plan' e k o y B = ended-none end _ _ (rw (k, o)) (call-other s plan' p e c k _ (ap is_some o) y B)

  pub call-gated : (s' : Tables) → is_base c ≡ false → (os : List Declared) → operator_outputs l f ≡ some os → outputs_fault types l node f os ≡ none → (y : Needs) → Gated s s' c true y p → Ended end (Ok end) (Gated s s' c (is_some (operator_outputs l f)) y p) (gate_fault types l node f (gate_of types l node c f))
  call-gated s' k os o z y D = ended-none end _ _ (rw (k, o) z) (subst (λ (b : Bool). Gated s s' c b y p) (sym (ap is_some o)) D)

pub call-lacks : (types : List TypeDef) (l : List Node) (node : Node) (f : ℕ) (c : Clock) (end x : ℕ) → is_base c ≡ false → (os : List Declared) → operator_outputs l f ≡ some os → outputs_fault types l node f os ≡ some (no_output_default x f) → (P : Type 0) → Ended end (Err (value.Fault.NoOutputDefault x f)) P (gate_fault types l node f (gate_of types l node c f))
call-lacks types l node f c end x k os o z P = ended_some end P _ (no_output_default x f) (value.Fault.NoOutputDefault x f) (rw (k, o) z) refl
