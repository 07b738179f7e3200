-- What `rewrite` needs is what is needed, whatever ids new names and `condact` have.
-- Assumes nothing.
use Prim.Native.Nat.{ℕ}
use mathlib.Core.Path.{◌≡◌, refl, ◌∙◌, ap}
use mathlib.Core.List.{List, [], ◌∷◌, ◌++◌}
use mathlib.Core.Bool.{Bool, true}
use mathlib.Core.Option.{Option, none, some}
use lib.ListN.{length, length-append}
use Rattle.definitions.specs.Tree.{Ty, Declared, TypeDef, Expr, Exprs, Node}
use Rattle.definitions.specs.Clock.{Clock, base, ◌↓◌, parent, is_on, is_not}
use Rattle.definitions.specs.Types.{default}
use Rattle.definitions.specs.InferClocks.{pre_untyped, no_output_default}
use Rattle.definitions.specs.Declock.{State, Hold, Rewritten, stopped, done, Rewriter, after, need as require, clock_place, add_with_parents, Stem, ck, hold, flag, first_flag, new_hold, gated, output_defaults, operator_outputs, call_on, held_pre, pre_on, arrow_on, rewrite, rewrites, operand_type, declared, if_of}
use Rattle.defaults.specs.Has.{is_some}
use Rattle.stateless.specs.Need.{Needs, needs_of, with_flag, with_hold, with_first, with_gate, settled, is_bare, pre_turn, arrow_turn, call_turn, needed, needed_all}

-- where no fault was met, this is needed then
unfoldable pub Leaves : {A : Type 0} → Needs → Rewritten A → Type 0
Leaves w (stopped f) = Unit {0}
Leaves w (done a s) = needs_of s ≡ w

leaves_after : {A B : Type 0} (w v : Needs) (r : Rewritten A) (f : A → Rewriter B) → Leaves w r → ((a : A) (s : State) → needs_of s ≡ w → Leaves v (f a s)) → Leaves v (after r f)
unfolding Leaves
leaves_after w v (stopped x) f h g = tt
leaves_after w v (done a s) f h g = g a s h

leaves-done : {A : Type 0} (w : Needs) (r : Rewritten A) (a : A) (s : State) → Leaves w r → r ≡ done a s → needs_of s ≡ w
unfolding Leaves
leaves-done w r a s h e = rw e at h

abbrev needing : List Clock → List Clock → Bool → ℕ → Needs
needing fs gs b n = record { flags = fs; firsts = gs; holds = n; condact = b }

-- a hold more
added : (c : Clock) (s : State) (x : Hold) (w : Needs) → needs_of s ≡ w → needs_of (record { flags = add_with_parents c s.flags; firsts = s.firsts; holds = s.holds ++ (x ∷ []); condact = s.condact }) ≡ with_hold c w
added c s x w h = ap (needing (add_with_parents c s.flags) s.firsts s.condact) (length-append s.holds (x ∷ [])) ∙ ap (with_hold c) h

module _ (types : List TypeDef) (nodes : List Node) (new : Stem → ℕ → ℕ) (condact : ℕ) (node : Node) (i : ℕ) where
  outputs-leave : (f : ℕ) (ds : List Declared) (s : State) (w : Needs) → needs_of s ≡ w → Leaves w (output_defaults types nodes new condact node i f ds s)
  unfolding output_defaults Leaves
  outputs-leave f [] s w h = h
  outputs-leave f (d ∷ ds) s w h = go (default types d.type) (outputs-leave f ds s w h)
    where
      go : (o : Option Expr) → Leaves w (output_defaults types nodes new condact node i f ds s) → Leaves w (after (require i o (no_output_default d.name f) s) (λ e s₁. after (output_defaults types nodes new condact node i f ds s₁) (λ es s₂. done (Exprs.and e es) s₂)))
      go none h = tt
      go (some e) h = leaves_after w w (output_defaults types nodes new condact node i f ds s) (λ es s₂. done (Exprs.and e es) s₂) h (λ es s₂ k. k)

  -- a call
  call-leaves : (c : Clock) (f : ℕ) (es : Exprs) (s : State) (w : Needs) → needs_of s ≡ w → Leaves (settled (call_turn c (is_some (operator_outputs nodes f))) c w) (call_on types nodes new condact node i c f es s)
  unfolding call_on Leaves flag gated
  call-leaves base f es s w h = h
  call-leaves (c ↓ k) f es s w h = go (operator_outputs nodes f)
    where
      go : (o : Option (List Declared)) → Leaves (settled (call_turn (c ↓ k) (is_some o)) (c ↓ k) w)
          ((elim o as (λ x. Rewriter Expr) [ none ↦ (λ s. done (Expr.call f es) s) | some outputs ↦ (λ s. after (flag new (c ↓ k) s) (λ a s₁. after (output_defaults types nodes new condact node i f outputs s₁) (λ ds s₂. gated condact a (Expr.call f es) ds s₂))) ]) s)
      go none = h
      go (some ds) = leaves_after (with_flag (c ↓ k) w) (with_gate (c ↓ k) w) (output_defaults types nodes new condact node i f ds _) _ (outputs-leave f ds _ (with_flag (c ↓ k) w) (ap (with_flag (c ↓ k)) h)) (λ es s₂ e. ap (λ (n : Needs). record { flags = n.flags; firsts = n.firsts; holds = n.holds; condact = true }) e)

  -- a `->`
  arrow-leaves : (c : Clock) (a b : Expr) (s : State) (w : Needs) → needs_of s ≡ w → Leaves (settled (arrow_turn c) c w) (arrow_on types nodes new condact node i c a b s)
  unfolding arrow_on first_flag Leaves
  arrow-leaves base a b s w h = h
  arrow-leaves (c ↓ k) a b s w h = ap (with_first (c ↓ k)) h

  -- a `pre` that is held
  held-leaves : (c : Clock) (e f : Expr) (s : State) (w : Needs) → needs_of s ≡ w → Leaves (with_hold c w) (held_pre types nodes new condact node i c e f s)
  unfolding held_pre flag new_hold Leaves
  held-leaves c e f s w h = go (operand_type (declared node) e)
    where
      go : (o : Option Ty) → Leaves (with_hold c w) (after (flag new c s) (λ a s₁. after (require i o pre_untyped s₁) (λ t s₂. after (new_hold new t (λ h. if_of a f (Expr.pre h)) s₂) (λ h s₃. done (Expr.pre h) s₃))))
      go none = tt
      go (some t) = added c s (record { type = t; right = if_of (Expr.var (new ck (clock_place c (add_with_parents c s.flags)))) f (Expr.pre (Expr.var (new hold (length s.holds)))) }) w h

  pre-leaves : (c : Clock) (e f : Expr) (s : State) (w : Needs) → needs_of s ≡ w → Leaves (settled (pre_turn c (is_bare e)) c w) (pre_on types nodes new condact node i c e f s)
  unfolding pre_on Leaves
  pre-leaves base (Expr.const l x) f s w h = h
  pre-leaves base (Expr.var x) f s w h = h
  pre-leaves base (Expr.op o es) f s w h = h
  pre-leaves base (Expr.pre a) f s w h = h
  pre-leaves base (Expr.arrow a b) f s w h = h
  pre-leaves base (Expr.call g es) f s w h = h
  pre-leaves base (Expr.when k a) f s w h = h
  pre-leaves base (Expr.merge x a b) f s w h = h
  pre-leaves (c ↓ j) (Expr.const l x) f s w h = held-leaves (c ↓ j) (Expr.const l x) f s w h
  pre-leaves (c ↓ j) (Expr.var x) f s w h = h
  pre-leaves (c ↓ j) (Expr.op o es) f s w h = held-leaves (c ↓ j) (Expr.op o es) f s w h
  pre-leaves (c ↓ j) (Expr.pre a) f s w h = held-leaves (c ↓ j) (Expr.pre a) f s w h
  pre-leaves (c ↓ j) (Expr.arrow a b) f s w h = held-leaves (c ↓ j) (Expr.arrow a b) f s w h
  pre-leaves (c ↓ j) (Expr.call g es) f s w h = held-leaves (c ↓ j) (Expr.call g es) f s w h
  pre-leaves (c ↓ j) (Expr.when k a) f s w h = held-leaves (c ↓ j) (Expr.when k a) f s w h
  pre-leaves (c ↓ j) (Expr.merge x a b) f s w h = held-leaves (c ↓ j) (Expr.merge x a b) f s w h

  mutual
    unfolding rewrite needed Leaves

    rewrite-leaves : (e : Expr) (c : Clock) (s : State) (w : Needs) → needs_of s ≡ w → Leaves (needed nodes c e w) (rewrite types nodes new condact node i c e s)
    rewrite-leaves (Expr.const l x) c s w h = h
    rewrite-leaves (Expr.var x) c s w h = h
    rewrite-leaves (Expr.op o es) c s w h = leaves_after _ _ (rewrites types nodes new condact node i c es s) _ (rewrites-leave es c s w h) (λ fs s₁ k. k)
    rewrite-leaves (Expr.pre e) c s w h = leaves_after _ _ (rewrite types nodes new condact node i c e s) _ (rewrite-leaves e c s w h) (λ f s₁ k. pre-leaves c e f s₁ _ k)
    rewrite-leaves (Expr.arrow a b) c s w h = leaves_after _ _ (rewrite types nodes new condact node i c a s) _ (rewrite-leaves a c s w h) (λ d s₁ k. leaves_after _ _ (rewrite types nodes new condact node i c b s₁) _ (rewrite-leaves b c s₁ _ k) (λ e s₂ m. arrow-leaves c d e s₂ _ m))
    rewrite-leaves (Expr.call f es) c s w h = leaves_after _ _ (rewrites types nodes new condact node i c es s) _ (rewrites-leave es c s w h) (λ fs s₁ k. call-leaves c f fs s₁ _ k)
    rewrite-leaves (Expr.when k e) c s w h = rewrite-leaves e (parent c) s w h
    rewrite-leaves (Expr.merge x a b) c s w h = leaves_after _ _ (rewrite types nodes new condact node i (c ↓ is_on x) a s) _ (rewrite-leaves a (c ↓ is_on x) s w h) (λ d s₁ k. leaves_after _ _ (rewrite types nodes new condact node i (c ↓ is_not x) b s₁) _ (rewrite-leaves b (c ↓ is_not x) s₁ _ k) (λ e s₂ m. m))

    rewrites-leave : (es : Exprs) (c : Clock) (s : State) (w : Needs) → needs_of s ≡ w → Leaves (needed_all nodes c c es w) (rewrites types nodes new condact node i c es s)
    rewrites-leave Exprs.end c s w h = h
    rewrites-leave (Exprs.and e es) c s w h = leaves_after _ _ (rewrite types nodes new condact node i c e s) _ (rewrite-leaves e c s w h) (λ f s₁ k. leaves_after _ _ (rewrites types nodes new condact node i c es s₁) _ (rewrites-leave es c s₁ _ k) (λ fs s₂ m. m))

  -- THE LAW: where rewriting ends, what it has needed is what is needed
  pub rewrite-needs : (c : Clock) (e f : Expr) (s s₁ : State) → rewrite types nodes new condact node i c e s ≡ done f s₁ → needs_of s₁ ≡ needed nodes c e (needs_of s)
  rewrite-needs c e f s s₁ g = leaves-done (needed nodes c e (needs_of s)) (rewrite types nodes new condact node i c e s) f s₁ (rewrite-leaves e c s (needs_of s) refl) g
