-- Rewriting stops at the first fault that it meets, whatever was needed before and whatever ids new names have: `rewrite-outcome`,
-- `stopped-at`.
use Prim.Native.Nat.{ℕ, suc}
use mathlib.Core.Path.{◌≡◌, refl, sym, subst}
use mathlib.Core.List.{List, [], ◌∷◌}
use mathlib.Core.Bool.{Bool, true, false}
use mathlib.Core.Option.{Option, none, some, none-ne-some}
use lib.Dec.{eqb}
use Rattle.definitions.specs.Lists.{choose, or_else, Letters}
use Rattle.definitions.specs.Tree.{Ty, Declared, TypeDef, Expr, Exprs, Equation, Node, Sheet}
use Rattle.definitions.specs.Clock.{Clock, base, ◌↓◌, parent, is_on, is_not}
use Rattle.definitions.specs.Types.{default}
use Rattle.definitions.specs.InferClocks.{Fault, undeclared, no_default, no_output_default, not_single_call, pre_untyped, NodeFault, Clocked}
use Rattle.definitions.specs.Declock.{State, Rewritten, stopped, done, Rewriter, after, need, stop, Stem, flag, first_flag, new_hold, gated, output_defaults, left_default, left_defaults, call_on, held_pre, pre_on, arrow_on, rewrite, rewrites, gate_several, under_flag, right_side, old_equations, Shape, bare, other, calls, shape_of, operand_type, last_type, declared, nothing_needed}
use Rattle.definitions.specs.Output.{condact_id, new_id, ClockedNode, rewritten, stopped_at}
use Rattle.stateless.specs.Need.{is_bare, pre_turn}
use Rattle.stateless.specs.Yield.{gate_of, shape_after}
use Rattle.stateless.specs.Faults.{unless, pre_fault, outputs_fault, gate_fault, fault_in, fault_among, left_type_fault, left_fault, lefts_fault, several_fault, flagged_fault, right_fault, at_equation, old_fault}

-- where there is a fault rewriting stops at it, else it ends with something of which Q holds
pub data Meets {F A : Type 0} (at : F → NodeFault) (Q : A → Type 0) : Option F → Rewritten A → Type 0 where
  stops : {f : F} → Meets at Q (some f) (stopped (at f))
  ends : {a : A} {s : State} → Q a → Meets at Q none (done a s)

-- anything will do
abbrev pub Any : {A : Type 0} → A → Type 0
Any a = Unit {0}

module _ {F A : Type 0} {at : F → NodeFault} {Q : A → Type 0} where
  -- one step, then another: the first's fault, else the second's
  meets-after : {B : Type 0} {R : B → Type 0} {o p : Option F} {r : Rewritten A} (f : A → Rewriter B) → Meets at Q o r → ((a : A) (s : State) → Q a → Meets at R p (f a s)) → Meets at R (or_else o p) (after r f)
  meets-after f stops h = stops
  meets-after f (ends {a} {s} q) h = h a s q

  -- a step that meets no fault of its own
  meets-map : {B : Type 0} {R : B → Type 0} {o : Option F} {r : Rewritten A} (f : A → Rewriter B) → Meets at Q o r → ((a : A) (s : State) → Q a → Meets at R none (f a s)) → Meets at R o (after r f)
  meets-map f stops h = stops
  meets-map f (ends {a} {s} q) h = h a s q

  -- where there is no fault, it ends
  pub meets-none : {o : Option F} {r : Rewritten A} → Meets at Q o r → o ≡ none → (a : A) × (s : State) × (r ≡ done a s) × Q a
  meets-none (stops {f}) e = absurd (none-ne-some f (sym e))
  meets-none (ends {a} {s} q) e = (a, s, refl, q)

-- a fault of equation i
abbrev pub fault_at : ℕ → Fault → NodeFault
fault_at i f = record { equation = i; fault = f }

module _ (types : List TypeDef) (nodes : List Node) (node : Node) (new : Stem → ℕ → ℕ) (condact : ℕ) where
  module _ (i : ℕ) where
    need-meets : {A : Type 0} (o : Option A) (f : Fault) (s : State) → Meets (fault_at i) Any (unless o f) (need i o f s)
    need-meets none f s = stops
    need-meets (some a) f s = ends tt

    outputs-meet : (f : ℕ) (ds : List Declared) (s : State) → Meets (fault_at i) Any (outputs_fault types nodes node f ds) (output_defaults types nodes new condact node i f ds s)
    unfolding output_defaults outputs_fault
    outputs-meet f [] s = ends tt
    outputs-meet f (d ∷ ds) s = meets-after _ (need-meets (default types d.type) (no_output_default d.name f) s) (λ e s₁ q. meets-map _ (outputs-meet f ds s₁) (λ es s₂ p. ends tt))

    -- the defaults of left names
    left_meets : (x : ℕ) (s : State) → Meets (fault_at i) Any (left_fault types nodes node x) (left_default types nodes new condact node i x s)
    unfolding left_default left_fault
    left_meets x s = go (last_type (declared node) x)
      where
        go : (o : Option Ty) → Meets (fault_at i) Any (left_type_fault types nodes node x o) (after (need i o (undeclared x) s) (λ t. need i (default types t) (no_default x)))
        go none = stops
        go (some t) = need-meets (default types t) (no_default x) s

    lefts-meet : (xs : List ℕ) (s : State) → Meets (fault_at i) Any (lefts_fault types nodes node xs) (left_defaults types nodes new condact node i xs s)
    unfolding left_defaults lefts_fault
    lefts-meet [] s = ends tt
    lefts-meet (x ∷ xs) s = meets-after _ (left_meets x s) (λ e s₁ q. meets-map _ (lefts-meet xs s₁) (λ es s₂ p. ends tt))

    -- a call
    call-meets : (c : Clock) (f : ℕ) (es fs : Exprs) (s : State) → Meets (fault_at i) (λ a. shape_of a ≡ shape_after types nodes node condact c (Expr.call f fs)) (gate_fault types nodes node f (gate_of types nodes node c f)) (call_on types nodes new condact node i c f es s)
    unfolding call_on shape_after flag gated
    call-meets c f es fs s = go (gate_of types nodes node c f)
      where
        go : (o : Option (List Declared)) → Meets (fault_at i) (λ a. shape_of a ≡ elim o as (λ x. Shape) [ none ↦ calls f | some os ↦ calls condact ]) (gate_fault types nodes node f o)
            ((elim o as (λ x. Rewriter Expr) [ none ↦ (λ s. done (Expr.call f es) s) | some outputs ↦ (λ s. after (flag new c s) (λ a s₁. after (output_defaults types nodes new condact node i f outputs s₁) (λ ds s₂. gated condact a (Expr.call f es) ds s₂))) ]) s)
        go none = ends refl
        go (some os) = meets-map _ (outputs-meet f os _) (λ ds s₂ q. ends refl)

    -- a `pre`
    held-meets : (c : Clock) (e f : Expr) (s : State) → Meets (fault_at i) (λ a. shape_of a ≡ other) (unless (operand_type (declared node) e) pre_untyped) (held_pre types nodes new condact node i c e f s)
    unfolding held_pre flag new_hold
    held-meets c e f s = meets-map _ (need-meets (operand_type (declared node) e) pre_untyped _) (λ t s₁ q. ends refl)

    pre-meets : (c : Clock) (e f : Expr) (s : State) → Meets (fault_at i) (λ a. shape_of a ≡ other) (pre_fault (pre_turn c (is_bare e)) (operand_type (declared node) e)) (pre_on types nodes new condact node i c e f s)
    unfolding pre_on
    pre-meets base (Expr.const l x) f s = ends refl
    pre-meets base (Expr.var x) f s = ends refl
    pre-meets base (Expr.op o es) f s = ends refl
    pre-meets base (Expr.pre a) f s = ends refl
    pre-meets base (Expr.arrow a b) f s = ends refl
    pre-meets base (Expr.call g es) f s = ends refl
    pre-meets base (Expr.when k a) f s = ends refl
    pre-meets base (Expr.merge x a b) f s = ends refl
    pre-meets (c ↓ j) (Expr.const l x) f s = held-meets (c ↓ j) (Expr.const l x) f s
    pre-meets (c ↓ j) (Expr.var x) f s = ends refl
    pre-meets (c ↓ j) (Expr.op o es) f s = held-meets (c ↓ j) (Expr.op o es) f s
    pre-meets (c ↓ j) (Expr.pre a) f s = held-meets (c ↓ j) (Expr.pre a) f s
    pre-meets (c ↓ j) (Expr.arrow a b) f s = held-meets (c ↓ j) (Expr.arrow a b) f s
    pre-meets (c ↓ j) (Expr.call g es) f s = held-meets (c ↓ j) (Expr.call g es) f s
    pre-meets (c ↓ j) (Expr.when k a) f s = held-meets (c ↓ j) (Expr.when k a) f s
    pre-meets (c ↓ j) (Expr.merge x a b) f s = held-meets (c ↓ j) (Expr.merge x a b) f s

    -- a `->`
    arrow-meets : (c : Clock) (a b : Expr) (s : State) → Meets {F = Fault} (fault_at i) (λ d. shape_of d ≡ other) none (arrow_on types nodes new condact node i c a b s)
    unfolding arrow_on first_flag
    arrow-meets base a b s = ends refl
    arrow-meets (c ↓ k) a b s = ends refl

    mutual
      unfolding rewrite fault_in shape_after

      -- an expression: its fault, and else its shape
      pub rewrite-outcome : (e : Expr) (c : Clock) (s : State) → Meets (fault_at i) (λ a. shape_of a ≡ shape_after types nodes node condact c e) (fault_in types nodes node c e) (rewrite types nodes new condact node i c e s)
      rewrite-outcome (Expr.const l w) c s = ends refl
      rewrite-outcome (Expr.var x) c s = ends refl
      rewrite-outcome (Expr.op h es) c s = meets-map _ (rewrites-outcome es c s) (λ fs s₁ q. ends refl)
      rewrite-outcome (Expr.pre e) c s = meets-after _ (rewrite-outcome e c s) (λ f s₁ q. pre-meets c e f s₁)
      rewrite-outcome (Expr.arrow a b) c s = meets-after _ (rewrite-outcome a c s) (λ d s₁ q. meets-map _ (rewrite-outcome b c s₁) (λ e s₂ p. arrow-meets c d e s₂))
      rewrite-outcome (Expr.call f es) c s = meets-after _ (rewrites-outcome es c s) (λ fs s₁ q. call-meets c f fs es s₁)
      rewrite-outcome (Expr.when k e) c s = rewrite-outcome e (parent c) s
      rewrite-outcome (Expr.merge x a b) c s = meets-after _ (rewrite-outcome a (c ↓ is_on x) s) (λ d s₁ q. meets-map _ (rewrite-outcome b (c ↓ is_not x) s₁) (λ e s₂ p. ends refl))

      pub rewrites-outcome : (es : Exprs) (c : Clock) (s : State) → Meets (fault_at i) Any (fault_among types nodes node c c es) (rewrites types nodes new condact node i c es s)
      rewrites-outcome Exprs.end c s = ends tt
      rewrites-outcome (Exprs.and e es) c s = meets-after _ (rewrite-outcome e c s) (λ f s₁ q. meets-map _ (rewrites-outcome es c s₁) (λ fs s₂ p. ends tt))

    -- several left names
    several-meets : (xs : List ℕ) (a e : Expr) (s : State) → Meets (fault_at i) Any (several_fault types nodes node condact xs (shape_of e)) (gate_several types nodes new condact node i xs a e s)
    unfolding gate_several gated
    several-meets xs a e s = go (shape_of e)
      where
        gating : ℕ → Bool → Rewriter Expr
        gating f u = choose u (λ s. done e s) (λ s. after (left_defaults types nodes new condact node i xs s) (λ ds s₁. gated condact a e ds s₁))

        chosen : (f : ℕ) (u : Bool) → Meets (fault_at i) Any (choose u none (lefts_fault types nodes node xs)) (gating f u s)
        chosen f true = ends tt
        chosen f false = meets-map _ (lefts-meet xs s) (λ ds s₁ q. ends tt)

        go : (u : Shape) → Meets (fault_at i) Any (several_fault types nodes node condact xs u) ((elim u as (λ x. Rewriter Expr) [ bare ↦ stop i not_single_call | other ↦ stop i not_single_call | calls f ↦ gating f (eqb f condact) ]) s)
        go bare = stops
        go other = stops
        go (calls f) = chosen f (eqb f condact)

    flagged-meets : (xs : List ℕ) (a e : Expr) (s : State) → Meets (fault_at i) Any (flagged_fault types nodes node condact xs (shape_of e)) (under_flag types nodes new condact node i xs a e s)
    unfolding under_flag
    flagged-meets [] a e s = several-meets [] a e s
    flagged-meets (x ∷ []) a e s = meets-map _ (left_meets x s) (λ d s₁ q. ends tt)
    flagged-meets (x ∷ y ∷ xs) a e s = several-meets (x ∷ y ∷ xs) a e s

    -- an equation's right side
    pub right-outcome : (c : Clock) (xs : List ℕ) (e : Expr) (s : State) → Meets (fault_at i) Any (right_fault types nodes node condact c xs e) (right_side types nodes new condact node i c xs e s)
    unfolding right_side right_fault flag
    right-outcome base xs e s = meets-after _ (rewrite-outcome e base s) (λ f s₁ q. ends tt)
    right-outcome (c ↓ k) xs e s = meets-after _ (rewrite-outcome e (c ↓ k) s) (λ f s₁ q.
        subst (λ (u : Shape). Meets (fault_at i) Any (flagged_fault types nodes node condact xs u) (after (flag new (c ↓ k) s₁) (λ a. under_flag types nodes new condact node i xs a f))) q (flagged-meets xs _ f _))

  at-equation : {A : Type 0} {Q : A → Type 0} {r : Rewritten A} {o : Option Fault} (i : ℕ) → Meets (fault_at i) Q o r → Meets (λ f. f) Q (at_equation types nodes node i o) r
  at-equation i stops = stops
  at-equation i (ends q) = ends q

  -- the old equations, from equation i on
  pub old-outcome : (i : ℕ) (es : List Clocked) (s : State) → Meets (λ f. f) Any (old_fault types nodes node condact i es) (old_equations types nodes new condact node i es s)
  unfolding old_equations old_fault
  old-outcome i [] s = ends tt
  old-outcome i (e ∷ es) s = meets-after _ (at-equation i (right-outcome i e.clock e.equation.left e.equation.right s)) (λ r s₁ q. meets-map _ (old-outcome (suc i) es s₁) (λ rest s₂ p. ends tt))

-- the fault that a node's rewriting stops at, if any, where `condact` has its id among these names
abbrev pub fault_of : Sheet → List Letters → ClockedNode → Option NodeFault
fault_of sheet all n = old_fault sheet.types sheet.nodes n.node (condact_id all) 0 n.clocking.equations

module _ (names : List Letters) (sheet : Sheet) (all : List Letters) (n : ClockedNode) where
  node-outcome : Meets (λ f. f) Any (fault_of sheet all n) (rewritten names sheet all n)
  unfolding rewritten
  node-outcome = old-outcome sheet.types sheet.nodes n.node (new_id names all n.node) (condact_id all) 0 n.clocking.equations nothing_needed

  -- a node's rewriting stops at this fault
  pub stopped-at : stopped_at names sheet (rewritten names sheet all n) ≡ fault_of sheet all n
  stopped-at = go node-outcome
    where
      go : {o : Option NodeFault} {r : Rewritten (List Equation)} → Meets (λ f. f) Any o r → stopped_at names sheet r ≡ o
      go stops = refl
      go (ends q) = refl

  -- and where there is none it ends
  pub done-where : fault_of sheet all n ≡ none → (es : List Equation) × (s : State) × (rewritten names sheet all n ≡ done es s)
  done-where e = let d = meets-none node-outcome e in (d.0, d.1, d.2)
