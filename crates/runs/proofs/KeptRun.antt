-- A run of a source node without faults depends only on each name's values at the ticks of its clock.
use mathlib.Core.Path.{◌≡◌, refl, sym, ap, ap₂, ◌∙◌, subst}
use mathlib.Core.Bool.{Bool, true, false, ◌&&◌, false≢true}
use mathlib.Core.List.{List, [], ◌∷◌, Memᴰ}
use mathlib.Core.Option.{Option, none, some}
use Prim.Native.Nat.{ℕ, suc, ◌<◌}
use native.Mathlib.Omega.{arith}
use lib.Dec.{eqb}
use Rattle.definitions.specs.declared.Condition.{Condition}
use Rattle.definitions.specs.Lists.{choose}
use Rattle.definitions.specs.Tree.{Expr, Exprs, Equation}
use Rattle.definitions.specs.Clock.{Clock, base, ◌↓◌, parent, is_on, is_not}
use Rattle.definitions.specs.InferClocks.{Clocks, clock_of, Clocked}
use Rattle.runs.specs.Callees.{Callees}
use Rattle.runs.specs.Run.{Meaning, last, since, Env, Unset, in₀, in₁, meets, on, called_at, value, values, Holds, AllHold}
use Rattle.runs.proofs.Ticks.{last-cong, so_far-cong, last-true}
use Rattle.runs.proofs.Checked.{Fits, Ok, Oks}
use Rattle.runs.proofs.Conditions.{Good}
use Rattle.runs.proofs.Holding.{takes_moved}

-- a name that is not `condact`
abbrev pub NotCondact : Callees → ℕ → Type 0
NotCondact C f = eqb f C.condact ≡ false

module _ {Val : Type 0} (M : Meaning Val) (C : Callees) (clocks : Clocks) (n : ℕ) (σ τ : Env Val) where
  open M use {is_true, form, function, operator}

  -- τ has σ's values at the ticks of each name's clock, at every tick for a name without one
  abbrev pub Keeps : Type 0
  Keeps = (x t : ℕ) → t < n → ((c : Clock) → clock_of clocks x ≡ some c → on M σ c t ≡ true) → σ x t ≡ τ x t

  module _ (keeps : Keeps) where
    name-same : (x : ℕ) (c : Clock) → Fits clocks x c → (t : ℕ) → t < n → on M σ c t ≡ true → σ x t ≡ τ x t
    name-same x c f t l o = keeps x t l (λ d e. rw (f d e) o)

    on_same : (c : Clock) → Good clocks c → (t : ℕ) → t < n → on M σ c t ≡ on M τ c t
    unfolding on
    on_same base g t l = refl
    on_same (c ↓ k) g t l = go (on M σ c t) refl (on_same c g.1 t l)
      where
        go : (u : Bool) → on M σ c t ≡ u → on M σ c t ≡ on M τ c t → (on M σ c t && meets M k.test (σ k.name t)) ≡ (on M τ c t && meets M k.test (τ k.name t))
        go true e h = ap₂ (λ (u : Bool) (v : Val). u && meets M k.test v) h (name-same k.name c g.0 t l e)
        go false e h = rw (← h, e)

    abbrev Same : Expr → Clock → Unset Val → Type 0
    Same e c α = (t : ℕ) → t < n → on M σ c t ≡ true → value M C e σ α c t ≡ value M C e τ α c t

    abbrev Sames : Exprs → Clock → Unset Val → Type 0
    Sames e c α = (t : ℕ) → t < n → on M σ c t ≡ true → values M C e σ α c t ≡ values M C e τ α c t

    last-same : (c : Clock) → Good clocks c → (t : ℕ) → t < n → last (on M σ c) t ≡ last (on M τ c) t
    last-same c g t l = last-cong (on M σ c) (on M τ c) t (λ s q. on_same c g s (omega arith))

    pre-same : (e : Expr) (c : Clock) (α : Unset Val) → Good clocks c → Same e c (in₀ α) → Same (Expr.pre e) c α
    unfolding value
    pre-same e c α g h t l o = go (last (on M σ c) t) refl ∙ ap (λ (u : Option ℕ). since u (α []) (λ s. value M C e τ (in₀ α) c s)) (last-same c g t l)
      where
        go : (u : Option ℕ) → last (on M σ c) t ≡ u → since u (α []) (λ s. value M C e σ (in₀ α) c s) ≡ since u (α []) (λ s. value M C e τ (in₀ α) c s)
        go none q = refl
        go (some s) q = let r = last-true (on M σ c) t s q in h s (omega (arith, r.0)) r.1

    arrow-same : (a b : Expr) (c : Clock) (α : Unset Val) → Good clocks c → Same a c (in₀ α) → Same b c (in₁ α) → Same (Expr.arrow a b) c α
    unfolding value
    arrow-same a b c α g h k t l o =
        ap₂ (λ (x y : Val). since (last (on M σ c) t) x (λ s. y)) (h t l o) (k t l o)
        ∙ ap (λ (u : Option ℕ). since u (value M C a τ (in₀ α) c t) (λ s. value M C b τ (in₁ α) c t)) (last-same c g t l)

    call_same : (f : ℕ) (es : Exprs) (c : Clock) (α : Unset Val) → Good clocks c → eqb f C.condact ≡ false → Sames es c α → Same (Expr.call f es) c α
    unfolding value values called_at
    call_same f es c α g nc h t l o = rw nc (ap₂ (λ (x y : Val). choose (C.operators f) x y)
        (ap (operator f) (so_far-cong (on M σ c) (on M τ c) (λ s. values M C es σ α c s) (λ s. values M C es τ α c s) (suc t) (λ s q. on_same c g s (omega arith)) (λ s q v. h s (omega arith) v)))
        (ap (function f) (h t l o)))

    merge-same : (x : ℕ) (a b : Expr) (c : Clock) (α : Unset Val) → Fits clocks x c → Same a (c ↓ is_on x) (in₀ α) → Same b (c ↓ is_not x) (in₁ α) → Same (Expr.merge x a b) c α
    unfolding value on
    merge-same x a b c α f h k t l o = go (is_true (σ x t)) refl ∙ ap (λ (v : Val). choose (is_true v) (value M C a τ (in₀ α) c₁ t) (value M C b τ (in₁ α) c₂ t)) (name-same x c f t l o)
      where
        c₁ : Clock
        c₁ = c ↓ is_on x

        c₂ : Clock
        c₂ = c ↓ is_not x

        go : (u : Bool) → is_true (σ x t) ≡ u → choose (is_true (σ x t)) (value M C a σ (in₀ α) c₁ t) (value M C b σ (in₁ α) c₂ t) ≡ choose (is_true (σ x t)) (value M C a τ (in₀ α) c₁ t) (value M C b τ (in₁ α) c₂ t)
        go true e = rw e (h t l (rw (o, e)))
        go false e = rw e (k t l (rw (o, e)))

    when-on : (k : Condition) (c : Clock) (t : ℕ) → c ≡ parent c ↓ k → on M σ c t ≡ true → on M σ (parent c) t ≡ true
    unfolding on
    when-on k c t e o = go (on M σ (parent c) t) refl (rw e at o)
      where
        go : (u : Bool) → on M σ (parent c) t ≡ u → (on M σ (parent c) t && meets M k.test (σ k.name t)) ≡ true → on M σ (parent c) t ≡ true
        go true q h = q
        go false q h = absurd (false≢true (rw q at h))

    mutual
      unfolding value values Ok

      value_same : (e : Expr) (c : Clock) (α : Unset Val) → Good clocks c → Ok clocks (NotCondact C) (λ x. Unit {0}) e c → Same e c α
      value_same (Expr.const v w) c α g o = λ t l u. refl
      value_same (Expr.var x) c α g o = name-same x c o.1
      value_same (Expr.op h es) c α g o = let r = values_same es c α g o in λ t l u. ap (form h) (r t l u)
      value_same (Expr.pre e) c α g o = pre-same e c α g (value_same e c (in₀ α) g o)
      value_same (Expr.arrow a b) c α g o = arrow-same a b c α g (value_same a c (in₀ α) g o.0) (value_same b c (in₁ α) g o.1)
      value_same (Expr.call f es) c α g o = call_same f es c α g o.0 (values_same es c α g o.1)
      value_same (Expr.when k e) c α g o = let r = value_same e (parent c) α (subst (λ (z : Clock). Good clocks z) o.0 g).1 o.2 in λ t l u. r t l (when-on k c t o.0 u)
      value_same (Expr.merge x a b) c α g o = merge-same x a b c α o.0.1 (value_same a (c ↓ is_on x) (in₀ α) (o.0.1, g) o.1) (value_same b (c ↓ is_not x) (in₁ α) (o.0.1, g) o.2)

      values_same : (es : Exprs) (c : Clock) (α : Unset Val) → Good clocks c → Oks clocks (NotCondact C) (λ x. Unit {0}) es c → Sames es c α
      values_same Exprs.end c α g o = λ t l u. refl
      values_same (Exprs.and e es) c α g o =
          let r = value_same e c (in₀ α) g o.0 in
          let q = values_same es c (in₁ α) g o.1 in
          λ t l u. ap₂ {C = List Val} (λ x xs. x ∷ xs) (r t l u) (q t l u)

    -- an equation that holds under σ holds under τ
    holds_same : (e : Equation) (c : Clock) (α : Unset Val) → Good clocks c → Ok clocks (NotCondact C) (λ x. Unit {0}) e.right c → ((x : ℕ) → Memᴰ x e.left → Fits clocks x c) → Holds M C σ n c e α → Holds M C τ n c e α
    unfolding Holds
    holds_same e c α g o f h t l u =
        let v : on M σ c t ≡ true = on_same c g t l ∙ u in
        rw (← value_same e.right c α g o t l v) (takes_moved M τ σ e.left t (λ x m. sym (name-same x c (f x m) t l v)) (value M C e.right σ α c t) (h t l v))

    -- and so do equations
    pub all_same : (es : List Clocked) (α : Unset Val)
        → ((e : Clocked) → Memᴰ e es → Good clocks e.clock × Ok clocks (NotCondact C) (λ x. Unit {0}) e.equation.right e.clock × ((x : ℕ) → Memᴰ x e.equation.left → Fits clocks x e.clock))
        → AllHold M C σ n es α → AllHold M C τ n es α
    unfolding AllHold
    all_same [] α h r = tt
    all_same (e ∷ es) α h r =
        let u = h e (Memᴰ.head refl) in
        (holds_same e.equation e.clock (in₀ α) u.0 u.1 u.2 r.0, all_same es (in₁ α) (λ d m. h d (Memᴰ.tail m)) r.1)
