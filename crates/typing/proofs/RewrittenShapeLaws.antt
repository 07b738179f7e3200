-- What an expression is after rewriting, by its role.
-- Assumes nothing.
use Prim.Native.Nat.{ℕ}
use mathlib.Core.Path.{◌≡◌, refl, sym, ◌∙◌, ap}
use mathlib.Core.List.{List}
use mathlib.Core.Bool.{Bool, true, false}
use mathlib.Core.Option.{Option, none, some}
use Rattle.definitions.specs.declared.Condition.{Condition}
use Rattle.definitions.specs.Lists.{choose}
use Rattle.definitions.specs.Tree.{Declared, TypeDef, Expr, Exprs, Node}
use Rattle.definitions.specs.Clock.{Clock, is_base, parent}
use Rattle.definitions.specs.Declock.{Shape, bare, other, calls, operator_outputs}
use Rattle.operands.specs.declared.Role.{Role}
use Rattle.operands.specs.Role.{role_of_expr}
use Rattle.defaults.specs.Has.{is_some}
use Rattle.stateless.specs.Yield.{shape_after}
use Rattle.std.specs.declared.option.Option.TheVariants.{None}
use Rattle.typing.specs.After.{called_by}

-- the roles other than those of a name, a `when` and a call
record Still (ρ : Role) : Type 0 where
  name : (x : ℕ) → ρ ≡ Role.Name x → ⊥
  sample : (k : Condition) → ρ ≡ Role.Sample k → ⊥
  call : (f : ℕ) → ρ ≡ Role.Call f → ⊥

-- the roles other than those of a `when` and a call
record CallsNothing (ρ : Role) : Type 0 where
  sample : (k : Condition) → ρ ≡ Role.Sample k → ⊥
  call : (f : ℕ) → ρ ≡ Role.Call f → ⊥

module _ (types : List TypeDef) (l : List Node) (node : Node) (k : ℕ) (c : Clock) where
  -- ---- a call
  module _ (f : ℕ) (es : Exprs) (b : Bool) (on : b ≡ is_base c) where
    -- by whether the clock is base, and what is called
    abbrev of-call : Bool → Option (List Declared) → Shape
    of-call plain o = elim (choose plain none o) as (λ x. Shape) [ none ↦ calls f | some os ↦ calls k ]

    pub call-plain : b ≡ true → calls f ≡ shape_after types l node k c (Expr.call f es)
    unfolding shape_after
    call-plain j = ap (λ (m : Bool). of-call m (operator_outputs l f)) (sym j ∙ on)

    module _ (j : b ≡ false) (m : Bool) (i : m ≡ is_some (operator_outputs l f)) where
      pub call-gated : m ≡ true → calls k ≡ shape_after types l node k c (Expr.call f es)
      unfolding shape_after
      call-gated h = go (operator_outputs l f) (sym h ∙ i) ∙ ap (λ (m : Bool). of-call m (operator_outputs l f)) (sym j ∙ on)
        where
          go : (o : Option (List Declared)) → true ≡ is_some o → calls k ≡ of-call false o
          go none e = absurd cc
          go (some os) e = refl

      pub call-other : m ≡ false → calls f ≡ shape_after types l node k c (Expr.call f es)
      unfolding shape_after
      call-other h = go (operator_outputs l f) (sym h ∙ i) ∙ ap (λ (m : Bool). of-call m (operator_outputs l f)) (sym j ∙ on)
        where
          go : (o : Option (List Declared)) → false ≡ is_some o → calls f ≡ of-call false o
          go none e = refl
          go (some os) e = absurd cc

  -- ---- an expression
  pub name-after : (e : Expr) (x : ℕ) → e ≡ Expr.var x → bare ≡ shape_after types l node k c e
  unfolding shape_after
  name-after e x i = rw i

  pub when-after : (e : Expr) (h : Condition) (a : Expr) (d : Clock) → e ≡ Expr.when h a → d ≡ parent c → shape_after types l node k d a ≡ shape_after types l node k c e
  unfolding shape_after
  when-after e h a d i j = rw (i, sym j)

  pub call-after : (e : Expr) (f : ℕ) (es : Exprs) (s : Shape) → e ≡ Expr.call f es → s ≡ shape_after types l node k c (Expr.call f es) → s ≡ shape_after types l node k c e
  call-after e f es s i m = rw i m

  -- all else is neither a name nor a call
  still_after : (e : Expr) → Still (role_of_expr e) → other ≡ shape_after types l node k c e
  unfolding role_of_expr shape_after
  still_after (Expr.const x w) h = refl
  still_after (Expr.var x) h = absurd (h.name x refl)
  still_after (Expr.op o es) h = refl
  still_after (Expr.pre a) h = refl
  still_after (Expr.arrow a b) h = refl
  still_after (Expr.call f es) h = absurd (h.call f refl)
  still_after (Expr.when x a) h = absurd (h.sample x refl)
  still_after (Expr.merge x a b) h = refl

  pub other_after : (e : Expr) (v : Role) → v ≡ role_of_expr e → ((x : ℕ) → v ≡ Role.Name x → ⊥) → ((x : Condition) → v ≡ Role.Sample x → ⊥) → ((f : ℕ) → v ≡ Role.Call f → ⊥) → other ≡ shape_after types l node k c e
  other_after e v i n s f = still_after e (record { name = λ x z. n x (i ∙ z); sample = λ x z. s x (i ∙ z); call = λ x z. f x (i ∙ z) })

  -- all else calls nothing
  nothing_after : (e : Expr) → CallsNothing (role_of_expr e) → None ≡ called_by (shape_after types l node k c e)
  unfolding role_of_expr shape_after
  nothing_after (Expr.const x w) h = refl
  nothing_after (Expr.var x) h = refl
  nothing_after (Expr.op o es) h = refl
  nothing_after (Expr.pre a) h = refl
  nothing_after (Expr.arrow a b) h = refl
  nothing_after (Expr.call f es) h = absurd (h.call f refl)
  nothing_after (Expr.when x a) h = absurd (h.sample x refl)
  nothing_after (Expr.merge x a b) h = refl

  pub none_after : (e : Expr) (v : Role) → v ≡ role_of_expr e → ((x : Condition) → v ≡ Role.Sample x → ⊥) → ((f : ℕ) → v ≡ Role.Call f → ⊥) → None ≡ called_by (shape_after types l node k c e)
  none_after e v i s f = nothing_after e (record { sample = λ x z. s x (i ∙ z); call = λ x z. f x (i ∙ z) })
