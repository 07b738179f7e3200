-- Equations one after another, and one by its right side and its flag.
-- Assumes nothing.
use mathlib.Core.Path.{◌≡◌, refl, sym, ◌∙◌, ap, subst}
use mathlib.Core.Bool.{false, true≢false}
use mathlib.Core.List.{List, [], ◌∷◌}
use mathlib.Core.Option.{Option}
use mathlib.Core.Logic.{inl}
use Prim.Native.Nat.{ℕ, suc, ◌+◌, ◌-◌, ◌≤◌, ◌<◌}
use native.Mathlib.Omega.{arith}
use lib.ListN.{length}
use Rattle.definitions.specs.Lists.{or_else}
use Rattle.definitions.specs.Bytes.{tokens}
use Rattle.definitions.specs.Tree.{TypeDef, Expr, Equation, Node}
use Rattle.definitions.specs.Clock.{Clock}
use Rattle.definitions.specs.InferClocks.{Fault, NodeFault, Clocked}
use Rattle.layout.specs.declared.NodeLayout.{NodeLayout}
use Rattle.layout.specs.Laid.{LaidNode}
use Rattle.layout.proofs.Owed.{owed-on}
use Rattle.stateless.specs.Need.{Needs, needed}
use Rattle.stateless.specs.Yield.{Ids, right_yield, old_yield}
use Rattle.stateless.specs.Faults.{at_equation, old_fault}
use Rattle.stateless.specs.Whole.{right_needs, old_needs}
use Rattle.stateless.specs.Locals.{ids_in}
use Rattle.skeleton.specs.Sites.{EquationSited, EquationsSited}
use Rattle.skeleton.proofs.Laws.{lies-owed}
use Rattle.planned.specs.Held.{HeldFrom}
use Rattle.findings.specs.declared.Found as value
use Rattle.findings.specs.declared.Fault as given
use Rattle.findings.specs.Value.{fault_of, node_fault_of}
use Rattle.std.specs.Prelude.{Result, Ok, Err, is_ok}
use Rattle.std.specs.Result.{MatchResult}
use Rattle.plan.specs.Tables.{Arrays, Tables, Begun}
use Rattle.plan.specs.Planned.{writer, Ended}
use Rattle.plan.specs.Walks.{Setting, ground_of, Known, Roomy}
use Rattle.stateless.proofs.Growth.{leads-trans, leads-equation, leads-old}
use Rattle.stateless.proofs.Kept.{right-kept}
use Rattle.plan.proofs.Growth.{yield-holds, yield-count}
use Rattle.plan.proofs.Laws.{held-append}
use Rattle.plan.proofs.Walk.{ok-same, ok-err, err-same, Sized, roomy_after, before-part, behind-part}
use Rattle.planned.specs.Planned.{EquationsPlanned}
use Rattle.node_plan.specs.Equations.{EquationsNoted, EndedAll, WalksEquation, WalksEquations}

-- ---- what is answered in the place of what was met
pub err-told : {A D : Type 0} (a : Result A D) (P : A → Type 0) (Q : D → Type 0) → false ≡ is_ok a → MatchResult a P Q → (d : D) × (a ≡ Err d) × Q d
err-told (Ok x) P Q v m = absurd (true≢false (sym v))
err-told (Err d) P Q v m = (d, refl, m)

-- ---- an equation makes the holds of its right side
module _ (types : List TypeDef) (l : List Node) (node : Node) (k : ℕ) where
  pub right-holds : (c : Clock) (xs : List ℕ) (e : Expr) (y : Needs) → (right_needs types l node k c xs e y).holds ≡ (needed l c e y).holds
  right-holds c xs e y = right-kept (λ v. v.holds ≡ (needed l c e y).holds) k c (record { flag = λ v h. h; gate = λ v h. h }) types l node xs e y refl

  right-after : (ids : Ids) (c : Clock) (xs : List ℕ) (e : Expr) (y : Needs) → (right_yield types l node ids c xs y.holds e).after ≡ (right_needs types l node k c xs e y).holds
  unfolding right_yield
  right-after ids c xs e y = yield-holds types l node ids e c y.holds y refl ∙ sym (right-holds c xs e y)

  right-count : (ids : Ids) (c : Clock) (xs : List ℕ) (e : Expr) (y : Needs) → y.holds + length (right_yield types l node ids c xs y.holds e).holds ≡ (right_needs types l node k c xs e y).holds
  unfolding right_yield
  right-count ids c xs e y = yield-count types l node ids e c y.holds ∙ right-after ids c xs e y

-- ---- by the first fault
stopped-at : (i : ℕ) (g t : given.Fault) (o : Fault) (r : Result ℕ given.Fault) → r ≡ Err t → r ≡ Err g → fault_of g ≡ o → node_fault_of (record { fault = t; equation = i }) ≡ record { equation = i; fault = o }
stopped-at i g t o r a b e = ap (λ (x : Fault). record { equation = i; fault = x }) (ap fault_of (err-same t g r a b) ∙ e)

ends-stop : (types : List TypeDef) (l : List Node) (node : Node) {m q : ℕ} {r : Result ℕ given.Fault} {P Q : Type 0} {o : Option Fault} (u : Option NodeFault) (t : given.Fault) (i : ℕ) → r ≡ Err t → Ended m r P o → EndedAll q (Err (record { fault = t; equation = i })) Q (or_else (at_equation types l node i o) u)
ends-stop types l node {m} {r = r} u t i a (Ended.goes h e) = absurd (ok-err m t r e a)
ends-stop types l node {r = r} u t i a (Ended.stops {f = f} g j e) = EndedAll.stops (record { fault = t; equation = i }) (stopped-at i g t f r a e j) refl

ends-map : {q : ℕ} {r : Result ℕ value.Found} {P Q : Type 0} {u : Option NodeFault} → (P → Q) → EndedAll q r P u → EndedAll q r Q u
ends-map f (EndedAll.goes h e) = EndedAll.goes (f h) e
ends-map f (EndedAll.stops g i e) = EndedAll.stops g i e

ends-then : (types : List TypeDef) (l : List Node) (node : Node) {m x q : ℕ} {r : Result ℕ given.Fault} {r' : Result ℕ value.Found} {P Q R : Type 0} {o : Option Fault} {u : Option NodeFault} (i : ℕ) → r ≡ Ok x → Ended m r P o → (P → x ≡ m → EndedAll q r' Q u) → (P → Q → R) → EndedAll q r' R (or_else (at_equation types l node i o) u)
ends-then types l node {m} {x} {r = r} i a (Ended.goes h e) k f = ends-map (f h) (k h (ok-same x m r a e))
ends-then types l node {x = x} {r = r} i a (Ended.stops g j e) k f = absurd (ok-err x g r a e)

module _ (A : Arrays) (condact : ℕ) where
  -- an equation ends behind its place, and equations do
  pub sited-on : (c : Clock) (e : Equation) (p q : ℕ) → EquationSited A.names A.tags A.values A.sites c e p q → p < q
  sited-on c e p q S = let f = owed-on (lies-owed S.right) in omega arith

  all-on : (cs : List Clocked) (p q : ℕ) → EquationsSited A.names A.tags A.values A.sites cs p q → p ≤ q
  unfolding EquationsSited
  all-on [] p q S = omega arith
  all-on (e ∷ es) p q S = omega (arith, sited-on e.clock e.equation p S.0 S.1, all-on es S.0 q S.2)

  pub equations-none : (s : Tables) (n p i : ℕ) → n ≡ 0 → WalksEquations A condact s s n p i (Ok p)
  unfolding EquationsSited old_fault old_needs old_yield EquationsPlanned HeldFrom
  equations-none s n p i z = record { walk = λ T end lay L cs q y m K R S B. go T cs q y (m ∙ z) S B }
    where
      go : (T : Setting) (cs : List Clocked) (q : ℕ) (y : Needs) → length cs ≡ 0 → EquationsSited A.names A.tags A.values A.sites cs p q → Begun s y → EndedAll q (Ok p) (EquationsNoted A T condact s s y cs p q) (old_fault T.types T.nodes T.node condact i cs)
      go T [] q y m S B = EndedAll.goes (record { begun = B; kept = λ j h. refl; held = λ j h. refl; say = λ w x F f H W a plan'' agree. S; hold = λ w x F f H W a plan'' holds'' agree same. tt }) (ap Ok S)
      go T (e ∷ es) q y m S B = absurd (omega arith)

  module _ (s s' : Tables) (p : ℕ) (r₀ : Result ℕ given.Fault) (E : WalksEquation A condact s s' p r₀) where
    pub equations-stop : (n i : ℕ) → 0 < n → (t : given.Fault) → r₀ ≡ Err t → WalksEquations A condact s s' n p i (Err (record { fault = t; equation = i }))
    unfolding EquationsSited old_fault
    equations-stop n i z t b = record { walk = λ T end lay L cs q y m K R S B. go T end lay L cs q y m K R S B }
      where
        go : (T : Setting) (end : ℕ) (lay : NodeLayout) → LaidNode A.names (tokens A.tags A.values) T.node end lay → (cs : List Clocked) (q : ℕ) (y : Needs) → length cs ≡ n → Known A T → Roomy A T s → EquationsSited A.names A.tags A.values A.sites cs p q → Begun s y →
            EndedAll q (Err (record { fault = t; equation = i })) (EquationsNoted A T condact s s' y cs p q) (old_fault T.types T.nodes T.node condact i cs)
        go T end lay L [] q y m K R S B = absurd (omega arith)
        go T end lay L (e ∷ es) q y m K R S B = ends-stop T.types T.nodes T.node (old_fault T.types T.nodes T.node condact (suc i) es) t i b (E.walk T end lay L e.clock e.equation S.0 y K R S.1 B)

    pub equations-met : (n i : ℕ) → 0 < n → (t : given.Fault) → r₀ ≡ Err t → (m : value.Found) → m ≡ record { fault = t; equation = i } → WalksEquations A condact s s' n p i (Err m)
    equations-met n i z t b m e = rw e (equations-stop n i z t b)

    module _ (x : ℕ) (went : r₀ ≡ Ok x) (s'' : Tables) (r : Result ℕ value.Found) (L' : Sized s s') where
      equations-more : (n i : ℕ) → 0 < n → WalksEquations A condact s' s'' (n - 1) x (suc i) r → WalksEquations A condact s s'' n p i r
      unfolding EquationsSited old_fault old_needs old_yield EquationsPlanned
      equations-more n i z F = record { walk = λ T end lay L cs q y m K R S B. go T end lay L cs q y m K R S B }
        where
          go : (T : Setting) (end : ℕ) (lay : NodeLayout) → LaidNode A.names (tokens A.tags A.values) T.node end lay → (cs : List Clocked) (q : ℕ) (y : Needs) → length cs ≡ n → Known A T → Roomy A T s → EquationsSited A.names A.tags A.values A.sites cs p q → Begun s y →
              EndedAll q r (EquationsNoted A T condact s s'' y cs p q) (old_fault T.types T.nodes T.node condact i cs)
          go T end lay L [] q y m K R S B = absurd (omega arith)
          go T end lay L (e ∷ es) q y m K R S B =
              let c = e.clock in
              let xs = e.equation.left in
              let a = e.equation.right in
              let o = S.0 in
              let w = right_needs T.types T.nodes T.node condact c xs a y in
              let z = old_needs T.types T.nodes T.node condact es w in
              let f = sited-on c e.equation p o S.1 in
              let g = all-on es o q S.2 in
              let up = (leads-equation T.types T.nodes T.node condact c xs a y).holds in
              let on = leads-old T.types T.nodes T.node condact es w in
              let more = on.holds in
              ends-then T.types T.nodes T.node i went (E.walk T end lay L c e.equation o y K R S.1 B)
              (λ P j. subst (λ (u : ℕ). EndedAll q r (EquationsNoted A T condact s' s'' w es u q) (old_fault T.types T.nodes T.node condact (suc i) es)) j
              (F.walk T end lay L es q w (omega arith) K (roomy_after A T s s' L' R) (subst (λ (u : ℕ). EquationsSited A.names A.tags A.values A.sites es u q) (sym j) S.2) P.begun))
              (λ P Q. record {
                begun = Q.begun;
                kept = λ j h. Q.kept j (before-part p o q j (omega arith) h) ∙ P.kept j (behind-part p o q j g h);
                held = λ j h. Q.held j (before-part y.holds w.holds z.holds j (omega arith) h) ∙ P.held j (behind-part y.holds w.holds z.holds j (omega arith) h);
                say = λ v k H I J W G plan'' agree.
                    let ids = ids_in v.flags v.firsts H I J k in (
                      o,
                      P.say v k H I J W (leads-trans w z v on G) plan'' (λ j d t. agree j d (omega arith) ∙ Q.kept j (inl t)),
                      subst (λ (u : ℕ). EquationsPlanned A.names A.tags A.values (writer (ground_of A T) k H I J) plan'' condact ids u es o q) (sym (right-after T.types T.nodes T.node condact ids c xs a y)) (Q.say v k H I J W G plan'' (λ j d t. agree j (omega arith) t)),
                    );
                hold = λ v k H I J W G plan'' holds'' agree same.
                    let ids = ids_in v.flags v.firsts H I J k in
                    held-append A.names A.tags A.values (writer (ground_of A T) k H I J) plan'' holds'' (right_yield T.types T.nodes T.node ids c xs y.holds a).holds _ y.holds w.holds (right-count T.types T.nodes T.node condact ids c xs a y)
                    (P.hold v k H I J W (leads-trans w z v on G) plan'' holds'' (λ j d t. agree j d (omega arith) ∙ Q.kept j (inl t)) (λ j d t. same j d (omega arith) ∙ Q.held j (inl t)))
                    (subst (λ (u : ℕ). HeldFrom A.names A.tags A.values (writer (ground_of A T) k H I J) plan'' holds'' w.holds (old_yield T.types T.nodes T.node ids u es).holds) (sym (right-after T.types T.nodes T.node condact ids c xs a y)) (Q.hold v k H I J W G plan'' holds'' (λ j d t. agree j (omega arith) t) (λ j d t. same j (omega arith) t)));
              })

      pub equations-step : (n i : ℕ) → 0 < n → (m j : ℕ) → m ≡ n - 1 → j ≡ i + 1 → WalksEquations A condact s' s'' m x j r → WalksEquations A condact s s'' n p i r
      equations-step n i z m j a d F =
          let e : j ≡ suc i = omega arith in
          equations-more n i z (subst (λ (u : ℕ). WalksEquations A condact s' s'' (n - 1) x u r) e (subst (λ (u : ℕ). WalksEquations A condact s' s'' u x j r) a F))
