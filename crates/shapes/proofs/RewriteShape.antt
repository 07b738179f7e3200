-- What rewriting makes of shaped trees is shaped.
use mathlib.Core.Path.{◌≡◌, refl, ap, subst, subst⁻¹}
use mathlib.Core.Bool.{Bool, true, false}
use mathlib.Core.List.Memᴰ
use mathlib.Core.List.{List, [], ◌∷◌, map, Memᴰ}
use mathlib.Core.Option.{Option, none, some}
use Prim.Native.Nat.{ℕ, suc, ◌<◌, Ordering}
use native.Mathlib.Omega.{arith}
use lib.Dec.{eqb}
use Rattle.definitions.specs.declared.Test.{Test}
use Rattle.definitions.specs.declared.Condition.{Condition}
use Rattle.definitions.specs.Lists.{choose, numbered, Letters}
use Rattle.definitions.specs.Tree.{Ty, Declared, TypeDef, Expr, Exprs, Equation, Node}
use Rattle.definitions.specs.Clock.{Clock, base, ◌↓◌, parent, is_on, is_not, is_base, chain_order, insert, in_chain_order}
use Rattle.definitions.specs.Types.{default}
use Rattle.definitions.specs.InferClocks.{Fault, not_single_call, pre_untyped, Clocked}
use Rattle.definitions.specs.Declock.{State, Hold, done, Rewriter, after, need, stop, add_with_parents, Stem, ck, first, hold, flag, first_flag, new_hold, gated, declared, last_type, operand_type, operator_outputs, output_defaults, left_default, left_defaults, call_on, held_pre, pre_on, arrow_on, rewrite, rewrites, gate_several, under_flag, right_side, old_equations, Shape, bare, other, calls, shape_of, true_of, if_of, and_of, not_of, New, condition_expr, flag_of, activation, first_tick, new_locals, with_new}
use Rattle.shapes.proofs.Facts.{All, all_nil, all_cons, all_app}
use Rattle.shapes.proofs.Added.{add-all}
use Rattle.shapes.proofs.Yields.{Yields, stops, yields, yields-after}
use Rattle.shapes.proofs.Decoded.{Maybe}
use Rattle.shapes.proofs.ClockNames.{NamedClock, NamedEquation}
use Rattle.shapes.proofs.Defaults.{default-shape, last_type-shape, operand_type-shape}
use Rattle.shapes.specs.Shape.{ShapedTy, ShapedDeclared, many, ShapedHead, Shaped, Shapeds, ShapedEquation, ShapedDefinition, ShapedNode}

-- clocks that are added, and clocks put in order
module _ (P : Clock → Type 0) where
  pub insert_all : (letters : ℕ → Letters) (c : Clock) (cs : List Clock) → P c → All P cs → All P (insert letters c cs)
  unfolding insert
  insert_all letters c [] h k = all_cons P c [] h (all_nil P)
  insert_all letters c (d ∷ cs) h k = go (chain_order letters c d) (insert_all letters c cs h (λ x m. k x (Memᴰ.tail m)))
    where
      go : (o : Ordering) → All P (insert letters c cs) → All P (elim o as (λ x. List Clock) [ Ordering.lt ↦ c ∷ d ∷ cs | Ordering.eq ↦ d ∷ cs | Ordering.gt ↦ d ∷ insert letters c cs ])
      go Ordering.lt ih = all_cons P c (d ∷ cs) h k
      go Ordering.eq ih = k
      go Ordering.gt ih = all_cons P d (insert letters c cs) (k d (Memᴰ.head refl)) ih

  pub order-all : (letters : ℕ → Letters) (cs : List Clock) → All P cs → All P (in_chain_order letters cs)
  unfolding in_chain_order
  order-all letters [] k = k
  order-all letters (c ∷ cs) k = insert_all letters c (in_chain_order letters cs) (k c (Memᴰ.head refl)) (order-all letters cs (λ x m. k x (Memᴰ.tail m)))

-- ids are below N
module _ (N : ℕ) where
  abbrev ShapedHold : Hold → Type 0
  ShapedHold h = ShapedTy N h.type × Shaped N h.right

  -- the holds are shaped, and the clocks with flags are made of names
  pub record ShapedState (s : State) : Type 0 where
    pub holds : All ShapedHold s.holds
    pub flags : All (NamedClock N) s.flags

  pub parents-named : (c : Clock) (cs : List Clock) → NamedClock N c → All (NamedClock N) cs → All (NamedClock N) (add_with_parents c cs)
  unfolding add_with_parents
  parents-named base cs h k = k
  parents-named (c ↓ j) cs h k = add-all (NamedClock N) (c ↓ j) (add_with_parents c cs) h (parents-named c cs h.1 k)

  pub parent-named : (c : Clock) → NamedClock N c → NamedClock N (parent c)
  parent-named base h = tt
  parent-named (c ↓ k) h = h.1

  if-shape : (a b c : Expr) → Shaped N a → Shaped N b → Shaped N c → Shaped N (if_of a b c)
  unfolding Shaped
  if-shape a b c s t u = (refl, (s, (t, (u, tt))), tt)

  not-shape : (a : Expr) → Shaped N a → Shaped N (not_of a)
  unfolding Shaped
  not-shape a s = (refl, (s, tt), tt)

  and-shape : (a b : Expr) → Shaped N a → Shaped N b → Shaped N (and_of a b)
  unfolding Shaped
  and-shape a b s t = (refl, (s, (t, tt)), tt)

  var-shape : (x : ℕ) → x < N → Shaped N (Expr.var x)
  unfolding Shaped
  var-shape x h = h

  pre-shape : (e : Expr) → Shaped N e → Shaped N (Expr.pre e)
  unfolding Shaped
  pre-shape e h = h

  arrow-shape : (a b : Expr) → Shaped N a → Shaped N b → Shaped N (Expr.arrow a b)
  unfolding Shaped
  arrow-shape a b s t = (s, t)

  call_shape : (f : ℕ) (es : Exprs) → f < N → Shapeds N es → Shaped N (Expr.call f es)
  unfolding Shaped
  call_shape f es w s = (s, w)

  operands-shape : (e : Expr) (es : Exprs) → Shaped N e → Shapeds N es → Shapeds N (Exprs.and e es)
  unfolding Shaped
  operands-shape e es s t = (s, t)

  true-shape : Shaped N true_of
  unfolding Shaped
  true-shape = (omega arith, refl)

  -- a shaped expression or shaped operands, and a shaped state
  abbrev Post : Expr → State → Type 0
  Post e s = Shaped N e × ShapedState s

  abbrev Posts : Exprs → State → Type 0
  Posts es s = Shapeds N es × ShapedState s

  module _ (types : List TypeDef) (nodes : List Node) (new : Stem → ℕ → ℕ) (condact : ℕ) (node : Node)
      (types-shaped : All (ShapedDefinition N) types) (node-shaped : All (ShapedDeclared N) (declared node)) (new-below : (stem : Stem) (j : ℕ) → new stem j < N) (condact-below : condact < N) where
    flag-shape : (c : Clock) (s : State) → NamedClock N c → ShapedState s → Yields Post (flag new c s)
    unfolding flag
    flag-shape c s h k = yields (var-shape _ (new-below ck _), record { holds = k.holds; flags = parents-named c s.flags h k.flags })

    first_flag-shape : (c : Clock) (s : State) → NamedClock N c → ShapedState s → Yields Post (first_flag new c s)
    unfolding first_flag
    first_flag-shape c s h k = yields (var-shape _ (new-below first _), record { holds = k.holds; flags = parents-named c s.flags h k.flags })

    new_hold-shape : (t : Ty) (right : Expr → Expr) (s : State) → ShapedTy N t → ((h : Expr) → Shaped N h → Shaped N (right h)) → ShapedState s → Yields Post (new_hold new t right s)
    unfolding new_hold
    new_hold-shape t right s w f k = yields (var-shape _ (new-below hold _), record { holds = all_app ShapedHold s.holds _ k.holds (all_cons ShapedHold _ [] (w, f _ (var-shape _ (new-below hold _))) (all_nil ShapedHold)); flags = k.flags })

    gated-shape : (a e : Expr) (ds : Exprs) (s : State) → Shaped N a → Shaped N e → Shapeds N ds → ShapedState s → Yields Post (gated condact a e ds s)
    unfolding gated
    gated-shape a e ds s p q r k = yields (call_shape condact (Exprs.and a (Exprs.and e ds)) condact-below (operands-shape a (Exprs.and e ds) p (operands-shape e ds q r)), record { holds = k.holds; flags = k.flags })

    module _ (i : ℕ) where
      need-shape : {A : Type 0} (P : A → Type 0) (o : Option A) (f : Fault) (s : State) → Maybe P o → ShapedState s → Yields (λ a s'. P a × ShapedState s') (need i o f s)
      need-shape P none f s h k = stops
      need-shape P (some a) f s h k = yields (h, k)

      outputs-shape : (f : ℕ) (ds : List Declared) (s : State) → ShapedState s → Yields Posts (output_defaults types nodes new condact node i f ds s)
      unfolding output_defaults Shaped
      outputs-shape f [] s k = yields (tt, k)
      outputs-shape f (d ∷ ds) s k = yields-after _ (need-shape (Shaped N) (default types d.type) _ s (default-shape N types types-shaped d.type) k) (λ e s₁ p. yields-after _ (outputs-shape f ds s₁ p.1) (λ es s₂ q. yields ((p.0, q.0), q.1)))

      left-shape : (x : ℕ) (s : State) → ShapedState s → Yields Post (left_default types nodes new condact node i x s)
      unfolding left_default
      left-shape x s k = yields-after _ (need-shape (ShapedTy N) (last_type (declared node) x) _ s (last_type-shape N (declared node) node-shaped x) k) (λ a s₁ q. need-shape (Shaped N) (default types a) _ s₁ (default-shape N types types-shaped a) q.1)

      lefts-shape : (xs : List ℕ) (s : State) → ShapedState s → Yields Posts (left_defaults types nodes new condact node i xs s)
      unfolding left_defaults Shaped
      lefts-shape [] s k = yields (tt, k)
      lefts-shape (x ∷ xs) s k = yields-after _ (left-shape x s k) (λ e s₁ p. yields-after _ (lefts-shape xs s₁ p.1) (λ es s₂ q. yields ((p.0, q.0), q.1)))

      call_on-shape : (c : Clock) (f : ℕ) (es : Exprs) (s : State) → NamedClock N c → f < N → Shapeds N es → ShapedState s → Yields Post (call_on types nodes new condact node i c f es s)
      unfolding call_on
      call_on-shape c f es s h w t k = go (choose (is_base c) none (operator_outputs nodes f))
        where
          go : (o : Option (List Declared)) → Yields Post ((elim o as (λ x. Rewriter Expr) [
            | none ↦ (λ s. done (Expr.call f es) s)
            | some outputs ↦ (λ s. after (flag new c s) (λ a s₁. after (output_defaults types nodes new condact node i f outputs s₁) (λ ds s₂. gated condact a (Expr.call f es) ds s₂)))
          ]) s)
          go none = yields (call_shape f es w t, k)
          go (some outputs) = yields-after _ (flag-shape c s h k) (λ a s₁ p. yields-after _ (outputs-shape f outputs s₁ p.1) (λ ds s₂ q. gated-shape a (Expr.call f es) ds s₂ p.0 (call_shape f es w t) q.0 q.1))

      held_pre-shape : (c : Clock) (e f : Expr) (s : State) → NamedClock N c → Shaped N f → ShapedState s → Yields Post (held_pre types nodes new condact node i c e f s)
      unfolding held_pre
      held_pre-shape c e f s h t k = yields-after _ (flag-shape c s h k) (λ a s₁ p.
          yields-after _ (need-shape (ShapedTy N) (operand_type (declared node) e) pre_untyped s₁ (operand_type-shape N (declared node) node-shaped e) p.1) (λ b s₂ q.
          yields-after _ (new_hold-shape b (λ h. if_of a f (Expr.pre h)) s₂ q.0 (λ h z. if-shape a f (Expr.pre h) p.0 t (pre-shape h z)) q.1) (λ g s₃ r. yields (pre-shape g r.0, r.1))))

      pre_on-shape : (c : Clock) (e f : Expr) (s : State) → NamedClock N c → Shaped N f → ShapedState s → Yields Post (pre_on types nodes new condact node i c e f s)
      unfolding pre_on
      pre_on-shape c e f s h t k = go (shape_of e)
        where
          plain : (u : Bool) → Yields Post (choose {A = Rewriter Expr} u (λ s. done (Expr.pre f) s) (held_pre types nodes new condact node i c e f) s)
          plain true = yields (pre-shape f t, k)
          plain false = held_pre-shape c e f s h t k

          go : (u : Shape) → Yields Post ((elim u as (λ x. Rewriter Expr) [
            | bare ↦ (λ s. done (Expr.pre f) s)
            | other ↦ choose (is_base c) (λ s. done (Expr.pre f) s) (held_pre types nodes new condact node i c e f)
            | calls g ↦ choose (is_base c) (λ s. done (Expr.pre f) s) (held_pre types nodes new condact node i c e f)
          ]) s)
          go bare = yields (pre-shape f t, k)
          go other = plain (is_base c)
          go (calls g) = plain (is_base c)

      arrow_on-shape : (c : Clock) (a b : Expr) (s : State) → NamedClock N c → Shaped N a → Shaped N b → ShapedState s → Yields Post (arrow_on types nodes new condact node i c a b s)
      unfolding arrow_on
      arrow_on-shape c a b s h p q k = go (is_base c)
        where
          go : (u : Bool) → Yields Post (choose {A = Rewriter Expr} u (λ s. done (Expr.arrow a b) s) (λ s. after (first_flag new c s) (λ f s₁. done (if_of f a b) s₁)) s)
          go true = yields (arrow-shape a b p q, k)
          go false = yields-after _ (first_flag-shape c s h k) (λ f s₁ r. yields (if-shape f a b r.0 p q, r.1))

      mutual
        unfolding rewrite Shaped

        rewrite-shape : (e : Expr) (c : Clock) (s : State) → NamedClock N c → Shaped N e → ShapedState s → Yields Post (rewrite types nodes new condact node i c e s)
        rewrite-shape (Expr.const l w) c s o h k = yields (h, k)
        rewrite-shape (Expr.var x) c s o h k = yields (h, k)
        rewrite-shape (Expr.op g es) c s o h k = yields-after _ (rewrites-shape es c s o h.1 k) (λ fs s₁ q. yields ((subst⁻¹ (ShapedHead N g) q.1 h.0, q.0.0, h.2), q.0.1))
        rewrite-shape (Expr.pre e) c s o h k = yields-after _ (rewrite-shape e c s o h k) (λ f s₁ q. pre_on-shape c e f s₁ o q.0 q.1)
        rewrite-shape (Expr.arrow a b) c s o h k = yields-after _ (rewrite-shape a c s o h.0 k) (λ d s₁ q. yields-after _ (rewrite-shape b c s₁ o h.1 q.1) (λ e s₂ p. arrow_on-shape c d e s₂ o q.0 p.0 p.1))
        rewrite-shape (Expr.call f es) c s o h k = yields-after _ (rewrites-shape es c s o h.0 k) (λ fs s₁ q. call_on-shape c f fs s₁ o h.1 q.0.0 q.0.1)
        rewrite-shape (Expr.when j e) c s o h k = rewrite-shape e (parent c) s (parent-named c o) h.0 k
        rewrite-shape (Expr.merge x a b) c s o h k = yields-after _ (rewrite-shape a (c ↓ is_on x) s (h.2, o) h.0 k) (λ d s₁ q. yields-after _ (rewrite-shape b (c ↓ is_not x) s₁ (h.2, o) h.1 q.1) (λ e s₂ p.
            yields (if-shape (Expr.var x) d e h.2 q.0 p.0, p.1)))

        rewrites-shape : (es : Exprs) (c : Clock) (s : State) → NamedClock N c → Shapeds N es → ShapedState s → Yields (λ fs s'. Posts fs s' × (many fs ≡ many es)) (rewrites types nodes new condact node i c es s)
        rewrites-shape Exprs.end c s o h k = yields ((tt, k), refl)
        rewrites-shape (Exprs.and e es) c s o h k = yields-after _ (rewrite-shape e c s o h.0 k) (λ f s₁ q. yields-after _ (rewrites-shape es c s₁ o h.1 q.1) (λ fs s₂ p. yields (((q.0, p.0.0), p.0.1), ap suc p.1)))

      several-shape : (xs : List ℕ) (a e : Expr) (s : State) → Shaped N a → Shaped N e → ShapedState s → Yields Post (gate_several types nodes new condact node i xs a e s)
      unfolding gate_several
      several-shape xs a e s p q k = go (shape_of e)
        where
          call : (u : Bool) → Yields Post (choose {A = Rewriter Expr} u (λ s. done e s) (λ s. after (left_defaults types nodes new condact node i xs s) (λ ds s₁. gated condact a e ds s₁)) s)
          call true = yields (q, k)
          call false = yields-after _ (lefts-shape xs s k) (λ ds s₁ r. gated-shape a e ds s₁ p q r.0 r.1)

          go : (u : Shape) → Yields Post ((elim u as (λ x. Rewriter Expr) [
            | bare ↦ stop i not_single_call
            | other ↦ stop i not_single_call
            | calls f ↦ choose (eqb f condact) (λ s. done e s) (λ s. after (left_defaults types nodes new condact node i xs s) (λ ds s₁. gated condact a e ds s₁))
          ]) s)
          go bare = stops
          go other = stops
          go (calls f) = call (eqb f condact)

      under_flag-shape : (xs : List ℕ) (a e : Expr) (s : State) → All (λ x. x < N) xs → Shaped N a → Shaped N e → ShapedState s → Yields Post (under_flag types nodes new condact node i xs a e s)
      unfolding under_flag
      under_flag-shape [] a e s w p q k = several-shape [] a e s p q k
      under_flag-shape (x ∷ []) a e s w p q k = yields-after _ (left-shape x s k) (λ d s₁ r. yields (if-shape a e (Expr.arrow d (Expr.pre (Expr.var x))) p q (arrow-shape d (Expr.pre (Expr.var x)) r.0 (pre-shape (Expr.var x) (var-shape x (w x (Memᴰ.head refl))))), r.1))
      under_flag-shape (x ∷ y ∷ xs) a e s w p q k = several-shape (x ∷ y ∷ xs) a e s p q k

      right_side-shape : (c : Clock) (xs : List ℕ) (e : Expr) (s : State) → NamedClock N c → All (λ x. x < N) xs → Shaped N e → ShapedState s → Yields Post (right_side types nodes new condact node i c xs e s)
      unfolding right_side
      right_side-shape c xs e s o w h k = yields-after _ (rewrite-shape e c s o h k) (λ f s₁ q. go f s₁ q (is_base c))
        where
          go : (f : Expr) (s₁ : State) → Post f s₁ → (u : Bool) → Yields Post (choose {A = Rewriter Expr} u (λ s. done f s) (λ s. after (flag new c s) (λ a s₂. under_flag types nodes new condact node i xs a f s₂)) s₁)
          go f s₁ q true = yields q
          go f s₁ q false = yields-after _ (flag-shape c s₁ o q.1) (λ a s₂ p. under_flag-shape xs a f s₂ w p.0 q.0 p.1)

    pub old_equations-shape : (i : ℕ) (es : List Clocked) (s : State) → All (NamedEquation N) es → ShapedState s → Yields (λ rs s'. All (ShapedEquation N) rs × ShapedState s') (old_equations types nodes new condact node i es s)
    unfolding old_equations
    old_equations-shape i [] s h k = yields (all_nil (ShapedEquation N), k)
    old_equations-shape i (e ∷ es) s h k =
        let u = h e (Memᴰ.head refl) in
        yields-after _ (right_side-shape i e.clock e.equation.left e.equation.right s u.0 u.1.1 u.1.0 k) (λ r s₁ q.
        yields-after _ (old_equations-shape (suc i) es s₁ (λ x m. h x (Memᴰ.tail m)) q.1) (λ rs s₂ p. yields (all_cons (ShapedEquation N) _ rs (q.0, u.1.1) p.0, p.1)))

  -- the new locals
  module _ (letters : ℕ → Letters) (new : Stem → ℕ → ℕ) (new-below : (stem : Stem) (j : ℕ) → new stem j < N) (S : State) (shaped : ShapedState S) where
    abbrev ShapedNew : New → Type 0
    ShapedNew l = ShapedTy N l.type × Shaped N l.right

    condition-shape : (k : Condition) → k.name < N → Shaped N (condition_expr k)
    condition-shape k w = go k.test
      where
        go : (u : Test) → Shaped N (elim u as (λ x. Expr) [ Test.On ↦ Expr.var k.name | Test.Not ↦ not_of (Expr.var k.name) ])
        go Test.On = var-shape k.name w
        go Test.Not = not-shape (Expr.var k.name) (var-shape k.name w)

    activation-shape : (c : Clock) → NamedClock N c → Shaped N (activation letters new S c)
    activation-shape base h = true-shape
    activation-shape (c ↓ k) h = go (is_base c)
      where
        go : (u : Bool) → Shaped N (choose u (condition_expr k) (and_of (flag_of letters new S c) (condition_expr k)))
        go true = condition-shape k h.0
        go false = and-shape (flag_of letters new S c) (condition_expr k) (var-shape _ (new-below ck _)) (condition-shape k h.0)

    first_tick-shape : (c : Clock) → Shaped N (first_tick letters new S c)
    first_tick-shape c = arrow-shape true_of _ true-shape (and-shape (Expr.pre (Expr.var _)) (not_of (Expr.pre (flag_of letters new S c))) (pre-shape (Expr.var _) (var-shape _ (new-below first _)))
        (not-shape (Expr.pre (flag_of letters new S c)) (pre-shape (flag_of letters new S c) (var-shape _ (new-below ck _)))))

    numbered-shape : (k : ℕ) (hs : List Hold) → All ShapedHold hs → All ShapedNew (numbered (λ j h. record { stem = hold; number = j; type = h.type; right = h.right }) k hs)
    numbered-shape k [] h = all_nil ShapedNew
    numbered-shape k (a ∷ hs) h = all_cons ShapedNew _ _ (h a (Memᴰ.head refl)) (numbered-shape (suc k) hs (λ x m. h x (Memᴰ.tail m)))

    all-mapped : (f : Clock → New) (cs : List Clock) → ((c : Clock) → Memᴰ c cs → ShapedNew (f c)) → All ShapedNew (map f cs)
    all-mapped f cs h x m = let r = Memᴰ.of_map f cs m in subst ShapedNew r.2 (h r.0 r.1)

    new_locals-shape : All ShapedNew (new_locals letters new S)
    unfolding new_locals
    new_locals-shape = all_app ShapedNew _ _ (all-mapped _ (in_chain_order letters S.flags) (λ c m. (tt, activation-shape c (order-all (NamedClock N) letters S.flags shaped.flags c m))))
        (all_app ShapedNew _ _ (all-mapped _ (in_chain_order letters S.firsts) (λ c m. (tt, first_tick-shape c))) (numbered-shape 0 S.holds shaped.holds))

    -- the node with them
    abbrev new_declared : New → Declared
    new_declared l = record { name = new l.stem l.number; type = l.type }

    abbrev new_equation : New → Equation
    new_equation l = record { left = new l.stem l.number ∷ []; right = l.right }

    locals-shape : All (ShapedDeclared N) (map new_declared (new_locals letters new S))
    locals-shape x m = let r = Memᴰ.of_map new_declared (new_locals letters new S) m in subst (ShapedDeclared N) r.2 ((new_locals-shape r.0 r.1).0, new-below r.0.stem r.0.number)

    equations-shape : All (ShapedEquation N) (map new_equation (new_locals letters new S))
    equations-shape x m =
        let r = Memᴰ.of_map new_equation (new_locals letters new S) m in
        subst (ShapedEquation N) r.2 ((new_locals-shape r.0 r.1).1, all_cons (λ x. x < N) (new r.0.stem r.0.number) [] (new-below r.0.stem r.0.number) (all_nil (λ x. x < N)))

    pub with_new-shape : (n : Node) (es : List Equation) → ShapedNode N n → All (ShapedEquation N) es → ShapedNode N (with_new new n (new_locals letters new S) es)
    unfolding with_new
    with_new-shape n es s h = record {
      name = s.name;
      inputs = s.inputs;
      outputs = s.outputs;
      locals = all_app (ShapedDeclared N) n.locals (map new_declared (new_locals letters new S)) s.locals locals-shape;
      equations = all_app (ShapedEquation N) (map new_equation (new_locals letters new S)) es equations-shape h;
      probes = s.probes;
    }
