-- Rewriting with a state ends with what rewriting without one yields, once the new names' ids are known.
use Prim.Native.Nat.{ℕ, suc}
use mathlib.Core.Path.{◌≡◌, refl, sym, ap, ◌∙◌}
use mathlib.Core.Bool.{Bool, true, false}
use mathlib.Core.List.{List, [], ◌∷◌, ◌++◌, append_assoc, append-nil}
use mathlib.Core.Option.{Option, none, some}
use native.Mathlib.Omega.{arith}
use lib.Dec.{eqb}
use lib.ListN.{length, length-append}
use Rattle.definitions.specs.Lists.{choose}
use Rattle.definitions.specs.Tree.{Ty, Declared, TypeDef, Expr, Exprs, Equation, Node}
use Rattle.definitions.specs.Clock.{Clock, base, ◌↓◌, parent, is_on, is_not, is_base}
use Rattle.definitions.specs.Types.{default}
use Rattle.definitions.specs.InferClocks.{Fault, undeclared, no_default, no_output_default, not_single_call, pre_untyped, Clocked}
use Rattle.definitions.specs.Declock.{State, nothing_needed, Hold, Rewritten, stopped, done, Rewriter, after, stop, need as require, clock_place, add, add_with_parents, Stem, ck, first, hold, flag, first_flag, new_hold, gated, output_defaults, left_default, left_defaults, operator_outputs, call_on, held_pre, pre_on, arrow_on, rewrite, rewrites, gate_several, under_flag, right_side, old_equations, Shape, bare, other, calls, shape_of, last_type, operand_type, declared, if_of}
use Rattle.shapes.proofs.Added.{has-add, has-parents}
use Rattle.shapes.proofs.Yields.{Yields, stops, yields as ends, yields-after, yields-map, yielded}
use Rattle.stateless.specs.Need.{Needs, needs_of, with_flag, with_first, with_gate, is_bare, pre_turn, needed}
use Rattle.stateless.proofs.Rewrite.{rewrite-needs}
use Rattle.stateless.specs.Yield.{Ids, Yield, still, mapped, joined, type_or, expr_or, default_or, output_trees, left_tree, left_trees, gate_of, shape_after, held, pre_yield, arrow_tree, call_tree, yield, yields, several_tree, flagged_tree, right_yield, old_yield}
use Rattle.stateless.specs.Whole.{no_needs, several_needs, flagged_needs, right_needs, old_needs}
use Rattle.stateless.specs.Locals.{Agree}
use Rattle.stateless.proofs.Stops.{Meets, fault_at, rewrite-outcome}
use Rattle.stateless.specs.Leads.{Leads}
use Rattle.stateless.proofs.Growth.{Sound, leads-trans, Step, step-self, step-trans, step-flag, step-first}

-- two things at once
yields-both : {A : Type 0} {Q R : A → State → Type 0} {r : Rewritten A} → Yields Q r → Yields R r → Yields (λ a s. Q a s × R a s) r
yields-both stops stops = stops
yields-both (ends q) (ends r) = ends (q, r)

-- from a law on what is yielded
yields-of : {A : Type 0} {Q : A → State → Type 0} (r : Rewritten A) → ((a : A) (s : State) → r ≡ done a s → Q a s) → Yields Q r
yields-of (stopped f) h = stops
yields-of (done a s) h = ends (h a s refl)

-- a state with more flags, these holds, and `condact` or not
abbrev flagged : Clock → List Hold → Bool → State → State
flagged c hs b s = record { flags = add_with_parents c s.flags; firsts = s.firsts; holds = hs; condact = b }

-- what is only looked up leaves the state as it was
module _ (types : List TypeDef) (nodes : List Node) (new : Stem → ℕ → ℕ) (condact : ℕ) (node : Node) (i : ℕ) where
  -- a rewriting ends with this, in the state that it began in
  abbrev Gives : {A : Type 0} → A → State → Rewritten A → Type 0
  Gives {A} a s r = Yields (λ b s'. (b ≡ a) × (s' ≡ s)) r

  outputs-give : (f : ℕ) (ds : List Declared) (s : State) → Gives (output_trees types nodes node ds) s (output_defaults types nodes new condact node i f ds s)
  unfolding output_defaults output_trees
  outputs-give f [] s = ends (refl, refl)
  outputs-give f (d ∷ ds) s = go (default types d.type) (outputs-give f ds s)
    where
      go : (o : Option Expr) → Gives (output_trees types nodes node ds) s (output_defaults types nodes new condact node i f ds s)
          → Gives (Exprs.and (expr_or o) (output_trees types nodes node ds)) s
          (after (require i o (no_output_default d.name f) s) (λ e s₁. after (output_defaults types nodes new condact node i f ds s₁) (λ es s₂. done (Exprs.and e es) s₂)))
      go none h = stops
      go (some e) h = yields-after _ h (λ es s₁ p. ends (ap (Exprs.and e) p.0, p.1))

  left-gives : (x : ℕ) (s : State) → Gives (left_tree types nodes node x) s (left_default types nodes new condact node i x s)
  unfolding left_default left_tree
  left-gives x s = typed (last_type (declared node) x)
    where
      defaulted : (o : Option Expr) → Gives (expr_or o) s (require i o (no_default x) s)
      defaulted none = stops
      defaulted (some e) = ends (refl, refl)

      typed : (o : Option Ty) → Gives (default_or types o) s (after (require i o (undeclared x) s) (λ t s₁. require i (default types t) (no_default x) s₁))
      typed none = stops
      typed (some t) = defaulted (default types t)

  lefts-give : (xs : List ℕ) (s : State) → Gives (left_trees types nodes node xs) s (left_defaults types nodes new condact node i xs s)
  unfolding left_defaults left_trees
  lefts-give [] s = ends (refl, refl)
  lefts-give (x ∷ xs) s = yields-after _ (left-gives x s) (λ e s₁ p. yields-after _ (lefts-give xs s₁) (λ es s₂ q. ends (rw (p.0, q.0), q.1 ∙ p.1)))

-- these ids are those of new names where this much is needed in the end
module _ (types : List TypeDef) (nodes : List Node) (new : Stem → ℕ → ℕ) (condact : ℕ) (node : Node) (ids : Ids) (w : Needs) (agree : Agree w.flags w.firsts w.holds new condact ids) where
  -- what is yielded stands here: the value, the holds behind those before, and how many there are then
  abbrev pub Same : {A : Type 0} → State → Yield A → A → State → Type 0
  Same s y a s' = (a ≡ y.value) × (s'.holds ≡ s.holds ++ y.holds) × (length s'.holds ≡ y.after)

  -- from s a rewriting led to a and s', as it does without a state if this much is needed in the end
  pub record Done {A : Type 0} (s : State) (y : Yield A) (a : A) (s' : State) : Type 0 where
    pub same : Leads (needs_of s') w → Same s y a s'
    pub step : Step (needs_of s) (needs_of s')

  done-still : {A : Type 0} (a : A) (s : State) → Done s (still a (length s.holds)) a s
  done-still a s = record { same = λ l. (refl, sym (append-nil s.holds), refl); step = step-self (needs_of s) }

  done-map : {A B : Type 0} {s s' : State} {y : Yield A} {a : A} (f : A → B) → Done s y a s' → Done s (mapped f y) (f a) s'
  done-map f d = record { same = λ l. let p = d.same l in (ap f p.0, p.1, p.2); step = d.step }

  done-join : {A B C : Type 0} (s s₁ s₂ : State) (f : A → B → C) (y : Yield A) (z : ℕ → Yield B) (a : A) (b : B)
      → Done s y a s₁ → Done s₁ (z (length s₁.holds)) b s₂ → Done s (joined f y (z y.after)) (f a b) s₂
  done-join s s₁ s₂ f y z a b d e =
      record {
        same = λ l.
            let p = d.same (leads-trans (needs_of s₁) (needs_of s₂) w e.step.leads l) in
            let q = rw p.2 at (e.same l) in
            (rw (p.0, q.0), q.1 ∙ rw (p.1, append_assoc), q.2);
        step = step-trans (needs_of s) (needs_of s₁) (needs_of s₂) d.step e.step;
      }

  -- one step more that makes no hold
  done-step : {A B : Type 0} (s s₁ s₂ : State) (y : Yield A) (f : A → B) (a : A) (b : B) → Done s y a s₁ → Step (needs_of s₁) (needs_of s₂) → s₂.holds ≡ s₁.holds
      → (Leads (needs_of s₂) w → b ≡ f a) → Done s (mapped f y) b s₂
  done-step s s₁ s₂ y f a b d t k e =
      record {
        same = λ l.
            let p = d.same (leads-trans (needs_of s₁) (needs_of s₂) w t.leads l) in
            (e l ∙ ap f p.0, k ∙ p.1, ap length k ∙ p.2);
        step = step-trans (needs_of s) (needs_of s₁) (needs_of s₂) d.step t;
      }

  -- a name is the one that it is in the end
  flag-name : (c : Clock) (s : State) (n : ℕ) (b : Bool) → is_base c ≡ false → Leads (record { flags = add_with_parents c s.flags; firsts = s.firsts; holds = n; condact = b }) w
      → new ck (clock_place c (add_with_parents c s.flags)) ≡ ids.flag c
  flag-name c s n b e l =
      let h = has-parents c s.flags e in
      ap (new ck) (l.flags.place c h) ∙ sym (agree.flags-agree c (l.flags.there c h))

  first-name : (c : Clock) (s : State) → Leads (with_first c (needs_of s)) w → new first (clock_place c (add c s.firsts)) ≡ ids.first c
  first-name c s l =
      let h = has-add c s.firsts in
      ap (new first) (l.firsts.place c h) ∙ sym (agree.firsts-agree c (l.firsts.there c h))

  -- flags, and `condact` or not, make no hold
  step-to : (c : Clock) (b : Bool) (s : State) → Step (needs_of s) (needs_of (flagged c s.holds b s))
  step-to c b s = step-flag c (needs_of s) (length s.holds) b (omega arith)

  module _ (i : ℕ) where
    -- a call
    call-done : (c : Clock) (f : ℕ) (es : Exprs) (s s₁ : State) (y : Yield Exprs) → Done s y es s₁
        → Yields (Done s (mapped (call_tree types nodes node ids (gate_of types nodes node c f) c f) y)) (call_on types nodes new condact node i c f es s₁)
    unfolding call_on flag gated
    call-done base f es s s₁ y d = ends (done-map (Expr.call f) d)
    call-done (c ↓ k) f es s s₁ y d = go (operator_outputs nodes f)
      where
        go : (o : Option (List Declared)) → Yields (Done s (mapped (call_tree types nodes node ids o (c ↓ k) f) y))
            ((elim o as (λ x. Rewriter Expr) [ none ↦ (λ s. done (Expr.call f es) s) | some outputs ↦ (λ s. after (flag new (c ↓ k) s) (λ a s₁. after (output_defaults types nodes new condact node i f outputs s₁) (λ ds s₂. gated condact a (Expr.call f es) ds s₂))) ]) s₁)
        go none = ends (done-map (Expr.call f) d)
        go (some os) = yields-after _ (outputs-give types nodes new condact node i f os (flagged (c ↓ k) s₁.holds s₁.condact s₁)) (λ ds s₂ p. ends (rw p.1
            (done-step s s₁ (flagged (c ↓ k) s₁.holds true s₁) y (call_tree types nodes node ids (some os) (c ↓ k) f) es _ d (step-to (c ↓ k) true s₁) refl
            (λ l. rw (p.0, flag-name (c ↓ k) s₁ (length s₁.holds) true refl l, agree.condact-agrees)))))

    -- a `->`
    arrow-done : (c : Clock) (a b : Expr) (s s₁ : State) (y z : Yield Expr) → ((f : Expr → Expr → Expr) → Done s (joined f y z) (f a b) s₁)
        → Yields (Done s (joined (arrow_tree types nodes node ids c) y z)) (arrow_on types nodes new condact node i c a b s₁)
    unfolding arrow_on first_flag
    arrow-done base a b s s₁ y z d = ends (d (λ d e. Expr.arrow d e))
    arrow-done (c ↓ k) a b s s₁ y z d =
        ends (done-step s s₁ _ (joined (λ d e. if_of (Expr.var (ids.first (c ↓ k))) d e) y z) (λ e. e) _ _ (d (λ d e. if_of (Expr.var (ids.first (c ↓ k))) d e)) (step-first (c ↓ k) (needs_of s₁) refl) refl
        (λ l. ap (λ (x : ℕ). if_of (Expr.var x) a b) (first-name (c ↓ k) s₁ l)))

    -- a `pre` that is held
    held-done : (c : Clock) (e f : Expr) (s s₁ : State) (y : Yield Expr) → is_base c ≡ false → Done s y f s₁
        → Yields (Done s (held types nodes node ids c (type_or (operand_type (declared node) e)) y)) (held_pre types nodes new condact node i c e f s₁)
    unfolding held_pre flag new_hold
    held-done c e f s s₁ y b d = typed (operand_type (declared node) e)
      where
        made : Ty → Hold
        made t = record { type = t; right = if_of (Expr.var (new ck (clock_place c (add_with_parents c s₁.flags)))) f (Expr.pre (Expr.var (new hold (length s₁.holds)))) }

        longer : (t : Ty) → length (s₁.holds ++ (made t ∷ [])) ≡ suc (length s₁.holds)
        longer t = omega (arith, length-append s₁.holds (made t ∷ []))

        onward : (t : Ty) → Step (needs_of s₁) (needs_of (flagged c (s₁.holds ++ (made t ∷ [])) s₁.condact s₁))
        onward t = step-flag c (needs_of s₁) (length (s₁.holds ++ (made t ∷ []))) s₁.condact (omega (arith, longer t))

        there : (t : Ty) → Done s (held types nodes node ids c t y) (Expr.pre (Expr.var (new hold (length s₁.holds)))) (flagged c (s₁.holds ++ (made t ∷ [])) s₁.condact s₁)
        there t =
            record {
              same = λ l.
                  let p = d.same (leads-trans (needs_of s₁) _ w (onward t).leads l) in
                  let h : new hold (length s₁.holds) ≡ ids.hold y.after = sym (agree.holds_agree (length s₁.holds) (omega (arith, longer t, l.holds))) ∙ ap ids.hold p.2 in
                  (rw h, rw (flag-name c s₁ _ s₁.condact b l, h, p.0, p.1, append_assoc), longer t ∙ ap suc p.2);
              step = step-trans (needs_of s) (needs_of s₁) _ d.step (onward t);
            }

        typed : (o : Option Ty) → Yields (Done s (held types nodes node ids c (type_or o) y))
            (after (flag new c s₁) (λ a s₁. after (require i o pre_untyped s₁) (λ t s₂. after (new_hold new t (λ h. if_of a f (Expr.pre h)) s₂) (λ h s₃. done (Expr.pre h) s₃))))
        typed none = stops
        typed (some t) = ends (there t)

    -- a `pre`
    pre-done : (c : Clock) (e f : Expr) (s s₁ : State) (y : Yield Expr) → Done s y f s₁
        → Yields (Done s (pre_yield types nodes node ids (pre_turn c (is_bare e)) c (type_or (operand_type (declared node) e)) y)) (pre_on types nodes new condact node i c e f s₁)
    unfolding pre_on
    pre-done base (Expr.const l x) f s s₁ y d = ends (done-map Expr.pre d)
    pre-done base (Expr.var x) f s s₁ y d = ends (done-map Expr.pre d)
    pre-done base (Expr.op o es) f s s₁ y d = ends (done-map Expr.pre d)
    pre-done base (Expr.pre a) f s s₁ y d = ends (done-map Expr.pre d)
    pre-done base (Expr.arrow a b) f s s₁ y d = ends (done-map Expr.pre d)
    pre-done base (Expr.call g es) f s s₁ y d = ends (done-map Expr.pre d)
    pre-done base (Expr.when k a) f s s₁ y d = ends (done-map Expr.pre d)
    pre-done base (Expr.merge x a b) f s s₁ y d = ends (done-map Expr.pre d)
    pre-done (c ↓ j) (Expr.const l x) f s s₁ y d = held-done (c ↓ j) (Expr.const l x) f s s₁ y refl d
    pre-done (c ↓ j) (Expr.var x) f s s₁ y d = ends (done-map Expr.pre d)
    pre-done (c ↓ j) (Expr.op o es) f s s₁ y d = held-done (c ↓ j) (Expr.op o es) f s s₁ y refl d
    pre-done (c ↓ j) (Expr.pre a) f s s₁ y d = held-done (c ↓ j) (Expr.pre a) f s s₁ y refl d
    pre-done (c ↓ j) (Expr.arrow a b) f s s₁ y d = held-done (c ↓ j) (Expr.arrow a b) f s s₁ y refl d
    pre-done (c ↓ j) (Expr.call g es) f s s₁ y d = held-done (c ↓ j) (Expr.call g es) f s s₁ y refl d
    pre-done (c ↓ j) (Expr.when k a) f s s₁ y d = held-done (c ↓ j) (Expr.when k a) f s s₁ y refl d
    pre-done (c ↓ j) (Expr.merge x a b) f s s₁ y d = held-done (c ↓ j) (Expr.merge x a b) f s s₁ y refl d

    mutual
      unfolding rewrite yield

      pub rewrite-done : (e : Expr) (c : Clock) (s : State) → Yields (Done s (yield types nodes node ids c (length s.holds) e)) (rewrite types nodes new condact node i c e s)
      rewrite-done (Expr.const l x) c s = ends (done-still (Expr.const l x) s)
      rewrite-done (Expr.var x) c s = ends (done-still (Expr.var x) s)
      rewrite-done (Expr.op h es) c s = yields-after _ (rewrites-done es c s) (λ fs s₁ d. ends (done-map (Expr.op h) d))
      rewrite-done (Expr.pre e) c s = yields-after _ (rewrite-done e c s) (λ f s₁ d. pre-done c e f s s₁ _ d)
      rewrite-done (Expr.arrow a b) c s = yields-after _ (rewrite-done a c s) (λ d s₁ p. yields-after _ (rewrite-done b c s₁) (λ e s₂ q.
          let y = yield types nodes node ids c (length s.holds) a in
          arrow-done c d e s s₂ y (yield types nodes node ids c y.after b) (λ f. done-join s s₁ s₂ f y (λ n. yield types nodes node ids c n b) d e p q)))
      rewrite-done (Expr.call f es) c s = yields-after _ (rewrites-done es c s) (λ fs s₁ d. call-done c f fs s s₁ _ d)
      rewrite-done (Expr.when k e) c s = rewrite-done e (parent c) s
      rewrite-done (Expr.merge x a b) c s = yields-after _ (rewrite-done a (c ↓ is_on x) s) (λ d s₁ p. yields-after _ (rewrite-done b (c ↓ is_not x) s₁) (λ e s₂ q.
          ends (done-join s s₁ s₂ (λ d e. if_of (Expr.var x) d e) (yield types nodes node ids (c ↓ is_on x) (length s.holds) a) (λ n. yield types nodes node ids (c ↓ is_not x) n b) d e p q)))

      rewrites-done : (es : Exprs) (c : Clock) (s : State) → Yields (Done s (yields types nodes node ids c c (length s.holds) es)) (rewrites types nodes new condact node i c es s)
      rewrites-done Exprs.end c s = ends (done-still Exprs.end s)
      rewrites-done (Exprs.and e es) c s = yields-after _ (rewrite-done e c s) (λ f s₁ p. yields-after _ (rewrites-done es c s₁) (λ fs s₂ q.
          ends (done-join s s₁ s₂ (λ f fs. Exprs.and f fs) (yield types nodes node ids c (length s.holds) e) (λ n. yields types nodes node ids c c n es) f fs p q)))

    -- several left names, or none
    several-done : (c : Clock) (xs : List ℕ) (e : Expr) (s s₁ : State) (y : Yield Expr) → is_base c ≡ false → Done s y e s₁
        → Yields (Done s (mapped (λ f. several_tree types nodes node ids c xs f (shape_of f)) y))
        (gate_several types nodes new condact node i xs (Expr.var (new ck (clock_place c (add_with_parents c s₁.flags)))) e (flagged c s₁.holds s₁.condact s₁))
    unfolding gate_several gated
    several-done c xs e s s₁ y b d = go (shape_of e) refl
      where
        a : Expr
        a = Expr.var (new ck (clock_place c (add_with_parents c s₁.flags)))

        s₂ : State
        s₂ = flagged c s₁.holds s₁.condact s₁

        tree : Expr → Expr
        tree f = several_tree types nodes node ids c xs f (shape_of f)

        called : (f : ℕ) → shape_of e ≡ calls f → (u : Bool) → eqb f condact ≡ u
            → Yields (Done s (mapped tree y)) (choose {A = Rewriter Expr} u (λ s. done e s) (λ s. after (left_defaults types nodes new condact node i xs s) (λ ds s₁. gated condact a e ds s₁)) s₂)
        called f q true u = ends (done-step s s₁ s₂ y tree e e d (step-to c s₁.condact s₁) refl (λ l. rw (q, agree.condact-agrees, u)))
        called f q false u = yields-after _ (lefts-give types nodes new condact node i xs s₂) (λ ds s₃ p. ends (rw p.1
            (done-step s s₁ (flagged c s₁.holds true s₁) y tree e _ d (step-to c true s₁) refl
            (λ l. rw (q, agree.condact-agrees, u, p.0, flag-name c s₁ (length s₁.holds) true b l)))))

        go : (u : Shape) → shape_of e ≡ u → Yields (Done s (mapped tree y))
            ((elim u as (λ x. Rewriter Expr) [
              | bare ↦ stop i not_single_call
              | other ↦ stop i not_single_call
              | calls f ↦ choose (eqb f condact) (λ s. done e s) (λ s. after (left_defaults types nodes new condact node i xs s) (λ ds s₁. gated condact a e ds s₁))
            ]) s₂)
        go bare q = stops
        go other q = stops
        go (calls f) q = called f q (eqb f condact) refl

    -- a right side under the flag of its clock
    flagged-done : (c : Clock) (xs : List ℕ) (e : Expr) (s s₁ : State) (y : Yield Expr) → is_base c ≡ false → Done s y e s₁
        → Yields (Done s (mapped (flagged_tree types nodes node ids c xs) y))
        (under_flag types nodes new condact node i xs (Expr.var (new ck (clock_place c (add_with_parents c s₁.flags)))) e (flagged c s₁.holds s₁.condact s₁))
    unfolding under_flag
    flagged-done c [] e s s₁ y b d = several-done c [] e s s₁ y b d
    flagged-done c (x ∷ []) e s s₁ y b d = yields-after _ (left-gives types nodes new condact node i x (flagged c s₁.holds s₁.condact s₁)) (λ t s₃ p. ends (rw p.1
        (done-step s s₁ (flagged c s₁.holds s₁.condact s₁) y (flagged_tree types nodes node ids c (x ∷ [])) e _ d (step-to c s₁.condact s₁) refl
        (λ l. rw (p.0, flag-name c s₁ (length s₁.holds) s₁.condact b l)))))
    flagged-done c (x ∷ z ∷ xs) e s s₁ y b d = several-done c (x ∷ z ∷ xs) e s s₁ y b d

    -- an equation's new right side
    pub right-done : (c : Clock) (xs : List ℕ) (e : Expr) (s : State) → Yields (Done s (right_yield types nodes node ids c xs (length s.holds) e)) (right_side types nodes new condact node i c xs e s)
    unfolding right_side right_yield flag
    right-done base xs e s = yields-after _ (rewrite-done e base s) (λ f s₁ d. ends (done-map (λ g. g) d))
    right-done (c ↓ k) xs e s = yields-after _ (rewrite-done e (c ↓ k) s) (λ f s₁ d. flagged-done (c ↓ k) xs f s s₁ _ refl d)

  -- the old equations, from equation i on
  pub old-done : (i : ℕ) (es : List Clocked) (s : State) → Yields (Done s (old_yield types nodes node ids (length s.holds) es)) (old_equations types nodes new condact node i es s)
  unfolding old_equations old_yield
  old-done i [] s = ends (done-still [] s)
  old-done i (e ∷ es) s = yields-after _ (right-done i e.clock e.equation.left e.equation.right s) (λ r s₁ p. yields-after _ (old-done (suc i) es s₁) (λ rest s₂ q.
      ends (done-join s s₁ s₂ (λ r rest. record { left = e.equation.left; right = r } ∷ rest)
      (right_yield types nodes node ids e.clock e.equation.left (length s.holds) e.equation.right) (λ n. old_yield types nodes node ids n es) r rest p q)))

  -- THE LAW: where rewriting of the equations ends, it ends with what is yielded
  pub old-yields : (i : ℕ) (es : List Clocked) (rs : List Equation) (s s' : State) → old_equations types nodes new condact node i es s ≡ done rs s' → Leads (needs_of s') w
      → Same s (old_yield types nodes node ids (length s.holds) es) rs s'
  old-yields i es rs s s' q l = (yielded rs s' q (old-done i es s)).same l

  -- the clocks with flags are closed under parents, and those with first-tick flags have flags
  pub old-sound : (i : ℕ) (es : List Clocked) (rs : List Equation) (s s' : State) → old_equations types nodes new condact node i es s ≡ done rs s' → Sound (needs_of s) → Sound (needs_of s')
  old-sound i es rs s s' q o = (yielded rs s' q (old-done i es s)).step.sound o

-- what equations need
module _ (types : List TypeDef) (nodes : List Node) (new : Stem → ℕ → ℕ) (condact : ℕ) (node : Node) where
  module _ (i : ℕ) where
    -- an expression has the shape that it has after rewriting, and needs what is needed
    rewrite-leaves : (c : Clock) (e : Expr) (s : State)
        → Yields (λ f s₁. (shape_of f ≡ shape_after types nodes node condact c e) × (needs_of s₁ ≡ needed nodes c e (needs_of s))) (rewrite types nodes new condact node i c e s)
    rewrite-leaves c e s =
        yields-both (shape (rewrite-outcome types nodes node new condact i e c s))
        (yields-of (rewrite types nodes new condact node i c e s) (λ f s₁ q. rewrite-needs types nodes new condact node i c e f s s₁ q))
      where
        shape : {o : Option Fault} {r : Rewritten Expr} → Meets (fault_at i) (λ f. shape_of f ≡ shape_after types nodes node condact c e) o r → Yields (λ f s₁. shape_of f ≡ shape_after types nodes node condact c e) r
        shape Meets.stops = stops
        shape (Meets.ends q) = ends q

    -- the several left names of an equation, or none, whose right side is rewritten to e
    several-needs : (c : Clock) (xs : List ℕ) (a e : Expr) (s : State)
        → Yields (λ f s₁. needs_of s₁ ≡ several_needs condact c (shape_of e) (needs_of s)) (gate_several types nodes new condact node i xs a e (flagged c s.holds s.condact s))
    unfolding gate_several gated
    several-needs c xs a e s = go (shape_of e)
      where
        s₂ : State
        s₂ = flagged c s.holds s.condact s

        called : (f : ℕ) (u : Bool) → Yields (λ f s₁. needs_of s₁ ≡ choose u (with_flag c (needs_of s)) (with_gate c (needs_of s)))
            (choose {A = Rewriter Expr} u (λ s. done e s) (λ s. after (left_defaults types nodes new condact node i xs s) (λ ds s₁. gated condact a e ds s₁)) s₂)
        called f true = ends refl
        called f false = yields-after _ (lefts-give types nodes new condact node i xs s₂) (λ ds s₃ p. ends (rw p.1))

        go : (u : Shape) → Yields (λ f s₁. needs_of s₁ ≡ several_needs condact c u (needs_of s))
            ((elim u as (λ x. Rewriter Expr) [
              | bare ↦ stop i not_single_call
              | other ↦ stop i not_single_call
              | calls f ↦ choose (eqb f condact) (λ s. done e s) (λ s. after (left_defaults types nodes new condact node i xs s) (λ ds s₁. gated condact a e ds s₁))
            ]) s₂)
        go bare = stops
        go other = stops
        go (calls f) = called f (eqb f condact)

    flagged-needs : (c : Clock) (xs : List ℕ) (a e : Expr) (s : State)
        → Yields (λ f s₁. needs_of s₁ ≡ flagged_needs condact c xs (shape_of e) (needs_of s)) (under_flag types nodes new condact node i xs a e (flagged c s.holds s.condact s))
    unfolding under_flag
    flagged-needs c [] a e s = several-needs c [] a e s
    flagged-needs c (x ∷ []) a e s = yields-after _ (left-gives types nodes new condact node i x (flagged c s.holds s.condact s)) (λ t s₃ p. ends (ap needs_of p.1))
    flagged-needs c (x ∷ z ∷ xs) a e s = several-needs c (x ∷ z ∷ xs) a e s

    pub right-needs : (c : Clock) (xs : List ℕ) (e : Expr) (s : State)
        → Yields (λ f s₁. needs_of s₁ ≡ right_needs types nodes node condact c xs e (needs_of s)) (right_side types nodes new condact node i c xs e s)
    unfolding right_side right_needs flag
    right-needs base xs e s = yields-after _ (rewrite-leaves base e s) (λ f s₁ q. ends q.1)
    right-needs (c ↓ k) xs e s = yields-after _ (rewrite-leaves (c ↓ k) e s) (λ f s₁ q. yields-map (λ g s₂ p. p ∙ rw (q.0, q.1)) (flagged-needs (c ↓ k) xs _ f s₁))

  -- what the old equations need, from equation i on
  pub old-needed : (i : ℕ) (es : List Clocked) (s : State)
      → Yields (λ rs s₁. needs_of s₁ ≡ old_needs types nodes node condact es (needs_of s)) (old_equations types nodes new condact node i es s)
  unfolding old_equations old_needs
  old-needed i [] s = ends refl
  old-needed i (e ∷ es) s = yields-after _ (right-needs i e.clock e.equation.left e.equation.right s) (λ r s₁ p. yields-after _ (old-needed (suc i) es s₁) (λ rest s₂ q.
      ends (q ∙ ap (old_needs types nodes node condact es) p)))

  -- THE LAW: what the old equations of a node need
  pub old-needs : (es : List Clocked) (rs : List Equation) (s : State) → old_equations types nodes new condact node 0 es nothing_needed ≡ done rs s → needs_of s ≡ old_needs types nodes node condact es no_needs
  old-needs es rs s e = yielded rs s e (old-needed 0 es nothing_needed)
