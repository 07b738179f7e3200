-- Whether rewriting a node stops does not depend on the ids that its new names and `condact` are given.
use mathlib.Core.Path.{◌≡◌, refl, subst, subst⁻¹}
use mathlib.Core.Bool.{Bool, true, false}
use mathlib.Core.List.{List, [], ◌∷◌, Memᴰ}
use mathlib.Core.Option.{Option, none, some}
use Prim.Native.Nat.{ℕ, suc}
use lib.Dec.{eqb}
use Rattle.definitions.specs.Lists.{choose}
use Rattle.definitions.specs.Tree.{Ty, Declared, TypeDef, Expr, Exprs, Node}
use Rattle.definitions.specs.Clock.{Clock, base, ◌↓◌, parent, is_on, is_not, is_base}
use Rattle.definitions.specs.Types.{default}
use Rattle.definitions.specs.InferClocks.{Fault, no_default, not_single_call, pre_untyped, NodeFault, Clocked}
use Rattle.definitions.specs.Declock.{State, Rewritten, stopped, done, Rewriter, after, need, Stem, flag, gated, output_defaults, left_default, left_defaults, call_on, pre_on, arrow_on, rewrite, rewrites, Shape, bare, other, calls, shape_of, stop, operator_outputs, held_pre, gate_several, operand_type, last_type, declared, under_flag, right_side, old_equations}
use Rattle.runs.proofs.Facts.{eqb-self}
use Rattle.runs.specs.Plain.{Part, reads, callee, computes}
use Rattle.runs.proofs.Parts.{Each, Eachs}

-- two rewritings that both stop, or are both done with related results
pub data Alike {A : Type 0} (R : A → A → Type 0) : Rewritten A → Rewritten A → Type 0 where
  both-stop : {f g : NodeFault} → Alike R (stopped f) (stopped g)
  both-done : {a b : A} {s t : State} → R a b → Alike R (done a s) (done b t)

-- anything goes with anything
abbrev pub Any : {A : Type 0} → A → A → Type 0
Any a b = Unit {0}

alike-after : {A B : Type 0} {R : A → A → Type 0} {Q : B → B → Type 0} {r r' : Rewritten A} (f f' : A → Rewriter B)
    → Alike R r r' → ((a b : A) (s t : State) → R a b → Alike Q (f a s) (f' b t)) → Alike Q (after r f) (after r' f')
alike-after f f' both-stop h = both-stop
alike-after f f' (both-done {a} {b} {s} {t} q) h = h a b s t q

pub alike-done : {A : Type 0} {R : A → A → Type 0} (r r' : Rewritten A) (a : A) (s : State) → r ≡ done a s → Alike R r r' → (b : A) × (t : State) × (r' ≡ done b t)
alike-done {A} r r' a s e both-stop = absurd (subst⁻¹ IsDone e tt)
  where
    IsDone : Rewritten A → Type 0
    IsDone (stopped f) = ⊥
    IsDone (done a s) = Unit {0}
alike-done r r' a s e (both-done {b} {t} q) = (b, t, refl)

module _ (types : List TypeDef) (nodes : List Node) (node : Node) (new new' : Stem → ℕ → ℕ) (condact condact' : ℕ) where
  -- what two rewritten expressions call: nothing, the same node, or each its `condact`
  data Calls : Shape → Shape → Type 0 where
    both-bare : Calls bare bare
    both-other : Calls other other
    same : {f : ℕ} → eqb f condact ≡ false → eqb f condact' ≡ false → Calls (calls f) (calls f)
    gates : Calls (calls condact) (calls condact')

  abbrev CallAlike : Expr → Expr → Type 0
  CallAlike a b = Calls (shape_of a) (shape_of b)

  -- no call is of `condact`
  abbrev pub NotCalled : Part → Type 0
  NotCalled (reads x) = Unit {0}
  NotCalled (callee f) = (eqb f condact ≡ false) × (eqb f condact' ≡ false)
  NotCalled (computes h) = Unit {0}

  module _ (i : ℕ) where
    need-alike : {A : Type 0} (o : Option A) (f : Fault) (s t : State) → Alike ◌≡◌ (need i o f s) (need i o f t)
    need-alike none f s t = both-stop
    need-alike (some a) f s t = both-done refl

    outputs-alike : (f : ℕ) (ds : List Declared) (s t : State) → Alike Any (output_defaults types nodes new condact node i f ds s) (output_defaults types nodes new' condact' node i f ds t)
    unfolding output_defaults
    outputs-alike f [] s t = both-done tt
    outputs-alike f (d ∷ ds) s t = alike-after _ _ (need-alike (default types d.type) _ s t) (λ a b s₁ t₁ q. alike-after _ _ (outputs-alike f ds s₁ t₁) (λ c d s₂ t₂ p. both-done tt))

    left-alike : (x : ℕ) (s t : State) → Alike Any (left_default types nodes new condact node i x s) (left_default types nodes new' condact' node i x t)
    unfolding left_default
    left-alike x s t = alike-after _ _ (need-alike (last_type (declared node) x) _ s t) (λ a b s₁ t₁ q.
        alike-any (subst (λ (z : Ty). Alike ◌≡◌ (need i (default types a) (no_default x) s₁) (need i (default types z) (no_default x) t₁)) q (need-alike (default types a) (no_default x) s₁ t₁)))
      where
        alike-any : {A : Type 0} {R : A → A → Type 0} {r r' : Rewritten A} → Alike R r r' → Alike Any r r'
        alike-any both-stop = both-stop
        alike-any (both-done q) = both-done tt

    lefts-alike : (xs : List ℕ) (s t : State) → Alike Any (left_defaults types nodes new condact node i xs s) (left_defaults types nodes new' condact' node i xs t)
    unfolding left_defaults
    lefts-alike [] s t = both-done tt
    lefts-alike (x ∷ xs) s t = alike-after _ _ (left-alike x s t) (λ a b s₁ t₁ q. alike-after _ _ (lefts-alike xs s₁ t₁) (λ c d s₂ t₂ p. both-done tt))

    call_on-alike : (c : Clock) (f : ℕ) (es es' : Exprs) (s t : State) → eqb f condact ≡ false → eqb f condact' ≡ false → Alike CallAlike (call_on types nodes new condact node i c f es s) (call_on types nodes new' condact' node i c f es' t)
    unfolding call_on
    call_on-alike base f es es' s t n n' = both-done (same n n')
    call_on-alike (c ↓ k) f es es' s t n n' = ends (operator_outputs nodes f)
      where
        end : Option (List Declared) → Rewritten Expr
        end u = (elim u as (λ x. Rewriter Expr) [ none ↦ (λ s. done (Expr.call f es) s) | some outputs ↦ (λ s. after (flag new (c ↓ k) s) (λ a s₁. after (output_defaults types nodes new condact node i f outputs s₁) (λ ds s₂. gated condact a (Expr.call f es) ds s₂))) ]) s

        end' : Option (List Declared) → Rewritten Expr
        end' u = (elim u as (λ x. Rewriter Expr) [ none ↦ (λ s. done (Expr.call f es') s) | some outputs ↦ (λ s. after (flag new' (c ↓ k) s) (λ a s₁. after (output_defaults types nodes new' condact' node i f outputs s₁) (λ ds s₂. gated condact' a (Expr.call f es') ds s₂))) ]) t

        ends : (u : Option (List Declared)) → Alike CallAlike (end u) (end' u)
        ends none = both-done (same n n')
        ends (some outputs) = alike-after _ _ (outputs-alike f outputs _ _) (λ a b s₁ t₁ q. both-done gates)

    held-alike : (c : Clock) (e f f' : Expr) (s t : State) → Alike CallAlike (held_pre types nodes new condact node i c e f s) (held_pre types nodes new' condact' node i c e f' t)
    unfolding held_pre
    held-alike c e f f' s t = alike-after _ _ (need-alike (operand_type (declared node) e) pre_untyped _ _) (λ a b s₁ t₁ q. both-done both-other)

    pre_on-alike : (c : Clock) (e f f' : Expr) (s t : State) → Alike CallAlike (pre_on types nodes new condact node i c e f s) (pre_on types nodes new' condact' node i c e f' t)
    unfolding pre_on
    pre_on-alike c e f f' s t = go (shape_of e)
      where
        pre : Bool → Rewriter Expr
        pre u = choose u (λ s. done (Expr.pre f) s) (held_pre types nodes new condact node i c e f)

        pre' : Bool → Rewriter Expr
        pre' u = choose u (λ s. done (Expr.pre f') s) (held_pre types nodes new' condact' node i c e f')

        both : (u : Bool) → Alike CallAlike (pre u s) (pre' u t)
        both true = both-done both-other
        both false = held-alike c e f f' s t

        go : (u : Shape) → Alike CallAlike ((elim u as (λ x. Rewriter Expr) [ bare ↦ (λ s. done (Expr.pre f) s) | other ↦ pre (is_base c) | calls g ↦ pre (is_base c) ]) s)
            ((elim u as (λ x. Rewriter Expr) [ bare ↦ (λ s. done (Expr.pre f') s) | other ↦ pre' (is_base c) | calls g ↦ pre' (is_base c) ]) t)
        go bare = both-done both-other
        go other = both (is_base c)
        go (calls g) = both (is_base c)

    arrow_on-alike : (c : Clock) (a b a' b' : Expr) (s t : State) → Alike CallAlike (arrow_on types nodes new condact node i c a b s) (arrow_on types nodes new' condact' node i c a' b' t)
    unfolding arrow_on
    arrow_on-alike base a b a' b' s t = both-done both-other
    arrow_on-alike (c ↓ k) a b a' b' s t = both-done both-other

    mutual
      unfolding rewrite Each

      rewrite-alike : (e : Expr) (c : Clock) (s t : State) → Each NotCalled e → Alike CallAlike (rewrite types nodes new condact node i c e s) (rewrite types nodes new' condact' node i c e t)
      rewrite-alike (Expr.const v w) c s t o = both-done both-other
      rewrite-alike (Expr.var x) c s t o = both-done both-bare
      rewrite-alike (Expr.op h es) c s t o = alike-after _ _ (rewrites-alike es c s t o.1) (λ a b s₁ t₁ q. both-done both-other)
      rewrite-alike (Expr.pre e) c s t o = alike-after _ _ (rewrite-alike e c s t o) (λ a b s₁ t₁ q. pre_on-alike c e a b s₁ t₁)
      rewrite-alike (Expr.arrow x y) c s t o = alike-after _ _ (rewrite-alike x c s t o.0) (λ a b s₁ t₁ q. alike-after _ _ (rewrite-alike y c s₁ t₁ o.1) (λ d e s₂ t₂ p. arrow_on-alike c a d b e s₂ t₂))
      rewrite-alike (Expr.call f es) c s t o = alike-after _ _ (rewrites-alike es c s t o.1) (λ a b s₁ t₁ q. call_on-alike c f a b s₁ t₁ o.0.0 o.0.1)
      rewrite-alike (Expr.when k e) c s t o = rewrite-alike e (parent c) s t o.1
      rewrite-alike (Expr.merge x y z) c s t o = alike-after _ _ (rewrite-alike y (c ↓ is_on x) s t o.1) (λ a b s₁ t₁ q. alike-after _ _ (rewrite-alike z (c ↓ is_not x) s₁ t₁ o.2) (λ d e s₂ t₂ p. both-done both-other))

      rewrites-alike : (es : Exprs) (c : Clock) (s t : State) → Eachs NotCalled es → Alike Any (rewrites types nodes new condact node i c es s) (rewrites types nodes new' condact' node i c es t)
      rewrites-alike Exprs.end c s t o = both-done tt
      rewrites-alike (Exprs.and e es) c s t o = alike-after _ _ (rewrite-alike e c s t o.0) (λ a b s₁ t₁ q. alike-after _ _ (rewrites-alike es c s₁ t₁ o.1) (λ d e s₂ t₂ p. both-done tt))

    several-alike : (xs : List ℕ) (a a' e e' : Expr) (s t : State) → CallAlike e e' → Alike Any (gate_several types nodes new condact node i xs a e s) (gate_several types nodes new' condact' node i xs a' e' t)
    unfolding gate_several
    several-alike xs a a' e e' s t h = go (shape_of e) (shape_of e') h
      where
        gating : Shape → Rewriter Expr
        gating u = elim u as (λ x. Rewriter Expr) [ bare ↦ stop i not_single_call | other ↦ stop i not_single_call | calls f ↦ choose (eqb f condact) (λ s. done e s) (λ s. after (left_defaults types nodes new condact node i xs s) (λ ds s₁. gated condact a e ds s₁)) ]

        gating' : Shape → Rewriter Expr
        gating' u = elim u as (λ x. Rewriter Expr) [ bare ↦ stop i not_single_call | other ↦ stop i not_single_call | calls f ↦ choose (eqb f condact') (λ s. done e' s) (λ s. after (left_defaults types nodes new' condact' node i xs s) (λ ds s₁. gated condact' a' e' ds s₁)) ]

        go : (u v : Shape) → Calls u v → Alike Any (gating u s) (gating' v t)
        go u v both-bare = both-stop
        go u v both-other = both-stop
        go u v (same n n') = rw (n, n') (alike-after _ _ (lefts-alike xs s t) (λ c d s₁ t₁ q. both-done tt))
        go u v gates = rw (eqb-self condact, eqb-self condact') (both-done tt)

    under_flag-alike : (xs : List ℕ) (a a' e e' : Expr) (s t : State) → CallAlike e e' → Alike Any (under_flag types nodes new condact node i xs a e s) (under_flag types nodes new' condact' node i xs a' e' t)
    unfolding under_flag
    under_flag-alike [] a a' e e' s t h = several-alike [] a a' e e' s t h
    under_flag-alike (x ∷ []) a a' e e' s t h = alike-after _ _ (left-alike x s t) (λ c d s₁ t₁ q. both-done tt)
    under_flag-alike (x ∷ y ∷ xs) a a' e e' s t h = several-alike (x ∷ y ∷ xs) a a' e e' s t h

    right_side-alike : (c : Clock) (xs : List ℕ) (e : Expr) (s t : State) → Each NotCalled e → Alike Any (right_side types nodes new condact node i c xs e s) (right_side types nodes new' condact' node i c xs e t)
    unfolding right_side
    right_side-alike base xs e s t o = alike-after _ _ (rewrite-alike e base s t o) (λ a b s₁ t₁ q. both-done tt)
    right_side-alike (c ↓ k) xs e s t o = alike-after _ _ (rewrite-alike e (c ↓ k) s t o) (λ a b s₁ t₁ q. under_flag-alike xs _ _ a b _ _ q)

  -- the equations
  pub old_equations-alike : (i : ℕ) (es : List Clocked) (s t : State) → ((e : Clocked) → Memᴰ e es → Each NotCalled e.equation.right)
      → Alike Any (old_equations types nodes new condact node i es s) (old_equations types nodes new' condact' node i es t)
  unfolding old_equations
  old_equations-alike i [] s t o = both-done tt
  old_equations-alike i (e ∷ es) s t o = alike-after _ _ (right_side-alike i e.clock e.equation.left e.equation.right s t (o e (Memᴰ.head refl))) (λ a b s₁ t₁ q.
      alike-after _ _ (old_equations-alike (suc i) es s₁ t₁ (λ d m. o d (Memᴰ.tail m))) (λ d f s₂ t₂ p. both-done tt))
