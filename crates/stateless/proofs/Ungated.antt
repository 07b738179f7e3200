-- Where nothing is gated, what rewriting yields does not depend on the id of `condact`: `same_old`.
-- Assumes nothing.
use Prim.Native.Nat.{ℕ, ◌<◌}
use mathlib.Core.Path.{◌≡◌, refl, sym, ap, ◌∙◌, subst}
use mathlib.Core.List.Memᴰ
use mathlib.Core.List.{List, [], ◌∷◌}
use mathlib.Core.Bool.{Bool, true, false, true≢false}
use mathlib.Core.Option.{Option, none, some}
use lib.Dec.{eqb}
use Rattle.definitions.specs.Lists.{choose}
use Rattle.definitions.specs.Tree.{Ty, Declared, TypeDef, Expr, Exprs, Equation, Node}
use Rattle.definitions.specs.Clock.{Clock, ◌↓◌, parent, is_on, is_not, is_base}
use Rattle.definitions.specs.InferClocks.{Clocked}
use Rattle.definitions.specs.Declock.{Shape, bare, other, calls, shape_of, if_of, operator_outputs, declared, operand_type}
use Rattle.shapes.specs.Shape.{Shaped, ShapedEquation}
use Rattle.shapes.proofs.Facts.{All}
use Rattle.defaults.specs.Has.{is_some}
use Rattle.stateless.specs.Need.{Turn, Needs, settled, is_bare, pre_turn, arrow_turn, call_turn, needed, needed_all}
use Rattle.stateless.specs.Yield.{Ids, Yield, mapped, joined, type_or, gate_of, shape_after, pre_yield, call_tree, yield, yields, several_tree, flagged_tree, right_yield, old_yield}
use Rattle.stateless.specs.Whole.{several_needs, flagged_needs, right_needs, old_needs}
use Rattle.stateless.proofs.Kept.{KeptSettled, needed-kept, all-kept, flagged-kept, old-kept}

-- what is true was not false before
was-false : (b d : Bool) → (b ≡ true → d ≡ true) → d ≡ false → b ≡ false
was-false true d h e = absurd (true≢false (sym (h refl) ∙ e))
was-false false d h e = refl

-- what is needed stays needed
abbrev Gated : Needs → Type 0
Gated s = s.condact ≡ true

settled-kept : KeptSettled Gated
settled-kept Turn.Keep c s h = h
settled-kept Turn.Hold c s h = h
settled-kept Turn.First c s h = h
settled-kept Turn.Gate c s h = refl

module _ (types : List TypeDef) (nodes : List Node) (node : Node) (flag first : Clock → ℕ) (hold : ℕ → ℕ) where
  abbrev pub ids_with : ℕ → Ids
  ids_with k = record { flag = flag; first = first; hold = hold; condact = k }

  module _ (k k' : ℕ) where
    pre-same : (t : Turn) (c : Clock) (a : Ty) (y : Yield Expr) → pre_yield types nodes node (ids_with k) t c a y ≡ pre_yield types nodes node (ids_with k') t c a y
    pre-same Turn.Keep c a y = refl
    pre-same Turn.Hold c a y = refl
    pre-same Turn.First c a y = refl
    pre-same Turn.Gate c a y = refl

    -- a call that is not gated
    call_same : (b : Bool) (o : Option (List Declared)) (c : Clock) (f : ℕ) (s : Needs) → is_base c ≡ b → (settled (call_turn c (is_some o)) c s).condact ≡ false → (y : Yield Exprs) →
        mapped (call_tree types nodes node (ids_with k) (choose b none o) c f) y ≡ mapped (call_tree types nodes node (ids_with k') (choose b none o) c f) y
    call_same true o c f s e h y = refl
    call_same false none c f s e h y = refl
    call_same false (some os) c f s e h y = let z : ◌≡◌ {A = Bool} true false = rw e at h in absurd (true≢false z)

    mutual
      unfolding needed yield

      same-tree : (e : Expr) (c : Clock) (n : ℕ) (s : Needs) → (needed nodes c e s).condact ≡ false → yield types nodes node (ids_with k) c n e ≡ yield types nodes node (ids_with k') c n e
      same-tree (Expr.const l w) c n s h = refl
      same-tree (Expr.var x) c n s h = refl
      same-tree (Expr.op o es) c n s h = ap (mapped (Expr.op o)) (same-trees es c c n s h)
      same-tree (Expr.pre e) c n s h =
          let g = was-false _ _ (settled-kept (pre_turn c (is_bare e)) c (needed nodes c e s)) h in
          ap (pre_yield types nodes node (ids_with k) (pre_turn c (is_bare e)) c (type_or (operand_type (declared node) e))) (same-tree e c n s g) ∙ pre-same (pre_turn c (is_bare e)) c _ _
      same-tree (Expr.arrow a b) c n s h =
          let g = was-false _ _ (settled-kept (arrow_turn c) c (needed nodes c b (needed nodes c a s))) h in
          let f = was-false _ _ (needed-kept Gated settled-kept nodes b c (needed nodes c a s)) g in
          rw (same-tree a c n s f, same-tree b c (yield types nodes node (ids_with k') c n a).after (needed nodes c a s) g)
      same-tree (Expr.call f es) c n s h =
          let g = was-false _ _ (settled-kept (call_turn c (is_some (operator_outputs nodes f))) c (needed_all nodes c c es s)) h in
          ap (mapped (call_tree types nodes node (ids_with k) (gate_of types nodes node c f) c f)) (same-trees es c c n s g) ∙ call_same (is_base c) (operator_outputs nodes f) c f (needed_all nodes c c es s) refl h _
      same-tree (Expr.when j e) c n s h = same-tree e (parent c) n s h
      same-tree (Expr.merge x a b) c n s h =
          let f = was-false _ _ (needed-kept Gated settled-kept nodes b (c ↓ is_not x) (needed nodes (c ↓ is_on x) a s)) h in
          rw (same-tree a (c ↓ is_on x) n s f, same-tree b (c ↓ is_not x) (yield types nodes node (ids_with k') (c ↓ is_on x) n a).after (needed nodes (c ↓ is_on x) a s) h)

      same-trees : (es : Exprs) (c d : Clock) (n : ℕ) (s : Needs) → (needed_all nodes c d es s).condact ≡ false → yields types nodes node (ids_with k) c d n es ≡ yields types nodes node (ids_with k') c d n es
      same-trees Exprs.end c d n s h = refl
      same-trees (Exprs.and e es) c d n s h =
          let f = was-false _ _ (all-kept Gated settled-kept nodes es d d (needed nodes c e s)) h in
          rw (same-tree e c n s f, same-trees es d d (yield types nodes node (ids_with k') c n e).after (needed nodes c e s) h)

    -- a call that was not gated is of a name below N
    ungated-call : (N : ℕ) (e : Expr) (c : Clock) (s : Needs) (g : ℕ) → Shaped N e → (needed nodes c e s).condact ≡ false → shape_after types nodes node k c e ≡ calls g → g < N
    unfolding needed shape_after Shaped
    ungated-call N (Expr.const l w) c s g p h e = absurd cc
    ungated-call N (Expr.var x) c s g p h e = absurd cc
    ungated-call N (Expr.op o es) c s g p h e = absurd cc
    ungated-call N (Expr.pre a) c s g p h e = absurd cc
    ungated-call N (Expr.arrow a b) c s g p h e = absurd cc
    ungated-call N (Expr.call f es) c s g p h e = go (is_base c) (operator_outputs nodes f) refl h e
      where
        go : (b : Bool) (o : Option (List Declared)) → is_base c ≡ b → (settled (call_turn c (is_some o)) c (needed_all nodes c c es s)).condact ≡ false → ◌≡◌ {A = Shape} (elim (choose b none o) as (λ x. Shape) [ none ↦ calls f | some os ↦ calls k ]) (calls g) → g < N
        go true o i j e = let x : f ≡ g = cc in subst (λ (z : ℕ). z < N) x p.1
        go false none i j e = let x : f ≡ g = cc in subst (λ (z : ℕ). z < N) x p.1
        go false (some os) i j e = let z : ◌≡◌ {A = Bool} true false = rw i at j in absurd (true≢false z)
    ungated-call N (Expr.when j a) c s g p h e = ungated-call N a (parent c) s g p.0 h e
    ungated-call N (Expr.merge x a b) c s g p h e = absurd cc

    -- the yield's shape
    pre-other : (t : Turn) (c : Clock) (a : Ty) (y : Yield Expr) → shape_of (pre_yield types nodes node (ids_with k) t c a y).value ≡ other
    pre-other Turn.Keep c a y = refl
    pre-other Turn.Hold c a y = refl
    pre-other Turn.First c a y = refl
    pre-other Turn.Gate c a y = refl

    arrow-other : (b : Bool) (f : ℕ) (x y : Expr) → shape_of (choose b (Expr.arrow x y) (if_of (Expr.var f) x y)) ≡ other
    arrow-other true f x y = refl
    arrow-other false f x y = refl

    shape_same : (e : Expr) (c : Clock) (n : ℕ) → shape_of (yield types nodes node (ids_with k) c n e).value ≡ shape_after types nodes node k c e
    unfolding yield shape_after
    shape_same (Expr.const l w) c n = refl
    shape_same (Expr.var x) c n = refl
    shape_same (Expr.op o es) c n = refl
    shape_same (Expr.pre e) c n = pre-other (pre_turn c (is_bare e)) c _ _
    shape_same (Expr.arrow a b) c n = arrow-other (is_base c) (first c) _ _
    shape_same (Expr.call f es) c n = go (gate_of types nodes node c f)
      where
        go : (o : Option (List Declared)) → ◌≡◌ {A = Shape} (shape_of (call_tree types nodes node (ids_with k) o c f (yields types nodes node (ids_with k) c c n es).value)) (elim o as (λ x. Shape) [ none ↦ calls f | some os ↦ calls k ])
        go none = refl
        go (some os) = refl
    shape_same (Expr.when j e) c n = shape_same e (parent c) n
    shape_same (Expr.merge x a b) c n = refl

    module _ (N : ℕ) (same : (f : ℕ) → f < N → eqb f k ≡ eqb f k') where
      several-same : (c : Clock) (xs : List ℕ) (v : Expr) (u : Shape) (s : Needs) → (several_needs k c u s).condact ≡ false → ((g : ℕ) → u ≡ calls g → g < N) → several_tree types nodes node (ids_with k) c xs v u ≡ several_tree types nodes node (ids_with k') c xs v u
      several-same c xs v bare s h low = refl
      several-same c xs v other s h low = refl
      several-same c xs v (calls g) s h low = go (eqb g k) refl
        where
          go : (b : Bool) → eqb g k ≡ b → several_tree types nodes node (ids_with k) c xs v (calls g) ≡ several_tree types nodes node (ids_with k') c xs v (calls g)
          go true e = rw (e, sym (same g (low g refl)) ∙ e)
          go false e = let z : ◌≡◌ {A = Bool} true false = rw e at h in absurd (true≢false z)

      flagged-same : (c : Clock) (xs : List ℕ) (v : Expr) (s : Needs) → (flagged_needs k c xs (shape_of v) s).condact ≡ false → ((g : ℕ) → shape_of v ≡ calls g → g < N) → flagged_tree types nodes node (ids_with k) c xs v ≡ flagged_tree types nodes node (ids_with k') c xs v
      flagged-same c [] v s h low = several-same c [] v (shape_of v) s h low
      flagged-same c (x ∷ []) v s h low = refl
      flagged-same c (x ∷ y ∷ xs) v s h low = several-same c (x ∷ y ∷ xs) v (shape_of v) s h low

      same-right : (c : Clock) (xs : List ℕ) (e : Expr) (n : ℕ) (s : Needs) → Shaped N e → (right_needs types nodes node k c xs e s).condact ≡ false → right_yield types nodes node (ids_with k) c xs n e ≡ right_yield types nodes node (ids_with k') c xs n e
      unfolding right_needs right_yield
      same-right c xs e n s p h = go (is_base c) h
        where
          go : (b : Bool) → (choose b (needed nodes c e s) (flagged_needs k c xs (shape_after types nodes node k c e) (needed nodes c e s))).condact ≡ false →
              mapped (λ f. choose b f (flagged_tree types nodes node (ids_with k) c xs f)) (yield types nodes node (ids_with k) c n e) ≡ mapped (λ f. choose b f (flagged_tree types nodes node (ids_with k') c xs f)) (yield types nodes node (ids_with k') c n e)
          go true j = ap (mapped (λ f. f)) (same-tree e c n s j)
          go false j =
              let i = was-false _ _ (flagged-kept Gated k c (record { flag = λ v h. h; gate = λ v h. refl }) xs (shape_after types nodes node k c e) (needed nodes c e s)) j in
              let v = yield types nodes node (ids_with k) c n e in
              let q = shape_same e c n in
              let w : flagged_tree types nodes node (ids_with k) c xs v.value ≡ flagged_tree types nodes node (ids_with k') c xs v.value =
              flagged-same c xs v.value (needed nodes c e s) (rw q j) (λ g z. ungated-call N e c s g p i (sym q ∙ z)) in
              ap (λ (x : Expr). record { value = x; holds = v.holds; after = v.after }) w ∙ ap (mapped (flagged_tree types nodes node (ids_with k') c xs)) (same-tree e c n s i)

      -- THE LAW
      pub same_old : (es : List Clocked) (n : ℕ) (s : Needs) → All (λ e. ShapedEquation N e.equation) es → (old_needs types nodes node k es s).condact ≡ false → old_yield types nodes node (ids_with k) n es ≡ old_yield types nodes node (ids_with k') n es
      unfolding old_needs old_yield
      same_old [] n s p h = refl
      same_old (e ∷ es) n s p h =
          let i = was-false _ _ (old-kept Gated settled-kept (λ c v h. h) types nodes node k es (right_needs types nodes node k e.clock e.equation.left e.equation.right s)) h in
          let add : Expr → List Equation → List Equation = λ r rest. record { left = e.equation.left; right = r } ∷ rest in
          let a = same-right e.clock e.equation.left e.equation.right n s (p e (Memᴰ.head refl)).0 i in
          let b = same_old es (right_yield types nodes node (ids_with k') e.clock e.equation.left n e.equation.right).after (right_needs types nodes node k e.clock e.equation.left e.equation.right s) (λ d m. p d (Memᴰ.tail m)) h in
          ap (λ (y : Yield Expr). joined add y (old_yield types nodes node (ids_with k) y.after es)) a ∙ ap (λ (z : Yield (List Equation)). joined add (right_yield types nodes node (ids_with k') e.clock e.equation.left n e.equation.right) z) b
