-- In two sheets with the same operators an expression that calls no `condact` has the same values, and so equations hold alike.
use mathlib.Core.Path.{◌≡◌, refl, ap, ap₂, ◌∙◌}
use mathlib.Core.Bool.{Bool}
use mathlib.Core.List.{List, [], ◌∷◌, Memᴰ}
use mathlib.Core.Option.{Option}
use Prim.Native.Nat.{ℕ, suc}
use Rattle.definitions.specs.Lists.{choose}
use Rattle.definitions.specs.Tree.{Expr, Exprs}
use Rattle.definitions.specs.Clock.{Clock, ◌↓◌, parent, is_on, is_not}
use Rattle.definitions.specs.InferClocks.{Clocked}
use Rattle.runs.specs.Callees.{Callees}
use Rattle.runs.specs.Run.{Meaning, last, so_far, since, Env, Unset, in₀, in₁, on, called_at, value, values, Holds, AllHold}
use Rattle.runs.specs.Plain.{Part, reads, callee, computes}
use Rattle.runs.proofs.Ticks.{so_far-cong}
use Rattle.runs.proofs.Parts.{Each, Eachs}
use Rattle.runs.proofs.Expressions.{Callable}

module _ {Val : Type 0} (M : Meaning Val) (C C' : Callees) (operators : (f : ℕ) → C.operators f ≡ C'.operators f) (σ : Env Val) where
  open M use {is_true, form, function, operator}

  -- no call is of `condact`
  abbrev pub CallsOther : Part → Type 0
  CallsOther (reads x) = Unit {0}
  CallsOther (callee f) = Callable C C' f
  CallsOther (computes h) = Unit {0}

  abbrev Same : Expr → Unset Val → Clock → Type 0
  Same e α c = (t : ℕ) → value M C e σ α c t ≡ value M C' e σ α c t

  abbrev Sames : Exprs → Unset Val → Clock → Type 0
  Sames es α c = (t : ℕ) → values M C es σ α c t ≡ values M C' es σ α c t

  pre-same : (e : Expr) (α : Unset Val) (c : Clock) → Same e (in₀ α) c → Same (Expr.pre e) α c
  unfolding value
  pre-same e α c h t = go (last (on M σ c) t)
    where
      go : (o : Option ℕ) → since o (α []) (value M C e σ (in₀ α) c) ≡ since o (α []) (value M C' e σ (in₀ α) c)
      go Option.none = refl
      go (Option.some s) = h s

  call_same : (f : ℕ) (es : Exprs) (α : Unset Val) (c : Clock) → Callable C C' f → Sames es α c → Same (Expr.call f es) α c
  unfolding value values called_at
  call_same f es α c nc h t = rw (nc.0, nc.1)
      (ap₂ (λ (x y : Val). choose (C.operators f) x y) (ap (operator f) (so_far-cong (on M σ c) (on M σ c) (values M C es σ α c) (values M C' es σ α c) (suc t) (λ s l. refl) (λ s l o. h s))) (ap (function f) (h t))
      ∙ ap (λ (b : Bool). choose b (operator f (so_far (on M σ c) (values M C' es σ α c) (suc t))) (function f (values M C' es σ α c t))) (operators f))

  mutual
    unfolding value values Each

    value_same : (e : Expr) (α : Unset Val) (c : Clock) → Each CallsOther e → Same e α c
    value_same (Expr.const l w) α c o = λ t. refl
    value_same (Expr.var x) α c o = λ t. refl
    value_same (Expr.op h es) α c o = let r = values_same es α c o.1 in λ t. ap (form h) (r t)
    value_same (Expr.pre e) α c o = pre-same e α c (value_same e (in₀ α) c o)
    value_same (Expr.arrow a b) α c o =
        let p = value_same a (in₀ α) c o.0 in
        let q = value_same b (in₁ α) c o.1 in
        λ t. ap₂ (λ (x y : Val). since (last (on M σ c) t) x (λ s. y)) (p t) (q t)
    value_same (Expr.call f es) α c o = call_same f es α c o.0 (values_same es α c o.1)
    value_same (Expr.when k e) α c o = let r = value_same e α (parent c) o.1 in λ t. r t
    value_same (Expr.merge x a b) α c o =
        let p = value_same a (in₀ α) (c ↓ is_on x) o.1 in
        let q = value_same b (in₁ α) (c ↓ is_not x) o.2 in
        λ t. ap₂ (λ (v w : Val). choose (is_true (σ x t)) v w) (p t) (q t)

    values_same : (es : Exprs) (α : Unset Val) (c : Clock) → Eachs CallsOther es → Sames es α c
    values_same Exprs.end α c o = λ t. refl
    values_same (Exprs.and e es) α c o =
        let p = value_same e (in₀ α) c o.0 in
        let q = values_same es (in₁ α) c o.1 in
        λ t. ap₂ {C = List Val} (λ x xs. x ∷ xs) (p t) (q t)

  -- equations that hold in the one sheet hold in the other
  pub all_alike : (n : ℕ) (es : List Clocked) (α : Unset Val) → ((e : Clocked) → Memᴰ e es → Each CallsOther e.equation.right) → AllHold M C' σ n es α → AllHold M C σ n es α
  unfolding AllHold Holds
  all_alike n [] α o h = tt
  all_alike n (e ∷ es) α o h = (
    (λ t l u. rw (value_same e.equation.right (in₀ α) e.clock (o e (Memᴰ.head refl)) t) (h.0 t l u)),
    all_alike n es (in₁ α) (λ d m. o d (Memᴰ.tail m)) h.1,
  )
