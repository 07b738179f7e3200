-- Several left names on a clock: their right side is rewritten to a gated call, which keeps its value where its clock is off.
use mathlib.Core.Path.{◌≡◌, refl, sym, ap, ◌∙◌}
use mathlib.Core.Bool.{Bool, true, false, ◌&&◌, true≢false, false≢true}
use mathlib.Core.List.{List, [], ◌∷◌}
use mathlib.Core.Option.{Option, some}
use Prim.Native.Nat.{ℕ, suc, ◌<◌}
use native.Mathlib.Omega.{arith}
use lib.Dec.{eqb}
use Rattle.definitions.specs.declared.Condition.{Condition}
use Rattle.definitions.specs.Lists.{choose}
use Rattle.definitions.specs.Tree.{TypeDef, Expr, Exprs, Node}
use Rattle.definitions.specs.Clock.{Clock, base, ◌↓◌}
use Rattle.definitions.specs.Declock.{State, Stem, rewrites, call_on, under_flag, right_side, calls}
use Rattle.runs.specs.Callees.{Callees}
use Rattle.runs.specs.Run.{Meaning, last, since, Env, Unset, on, gated_at, value}
use Rattle.runs.specs.Plain.{call_if_several}
use Rattle.runs.proofs.Ticks.{last-cong}
use Rattle.runs.proofs.Facts.{eqb-self}
use Rattle.shapes.proofs.Yields.{Yields, yields-after, yields-map}
use Rattle.runs.proofs.Growth.{Leads, leads-trans, leads-flag, leads-condact, with_flag, with_condact, flag_name, gate, call_on-yields, gate_several-yields}
use Rattle.runs.proofs.Expressions.{Flags}

-- "several left names have a call itself as right side"
abbrev pub CallIfSeveral : List ℕ → Expr → Type 0
CallIfSeveral [] e = Unit {0}
CallIfSeveral (x ∷ []) e = Unit {0}
CallIfSeveral (x ∷ y ∷ xs) e = (f : ℕ) × (es : Exprs) × (e ≡ Expr.call f es)

is_call : (e : Expr) (x y : ℕ) (xs : List ℕ) → call_if_several (x ∷ y ∷ xs) e ≡ true → (f : ℕ) × (es : Exprs) × (e ≡ Expr.call f es)
is_call (Expr.const l w) x y xs h = absurd (false≢true h)
is_call (Expr.var z) x y xs h = absurd (false≢true h)
is_call (Expr.op g es) x y xs h = absurd (false≢true h)
is_call (Expr.pre e) x y xs h = absurd (false≢true h)
is_call (Expr.arrow a b) x y xs h = absurd (false≢true h)
is_call (Expr.call f es) x y xs h = (f, es, refl)
is_call (Expr.when k e) x y xs h = absurd (false≢true h)
is_call (Expr.merge z a b) x y xs h = absurd (false≢true h)

pub call-if-several : (xs : List ℕ) (e : Expr) → call_if_several xs e ≡ true → CallIfSeveral xs e
call-if-several [] e h = tt
call-if-several (x ∷ []) e h = tt
call-if-several (x ∷ y ∷ xs) e h = is_call e x y xs h

calls-eq : (f g : ℕ) → calls f ≡ calls g → f ≡ g
calls-eq f g e = cc

-- what `condact` gives is kept where the flag is off, once it has been on
pub gate-keeps : {Val : Type 0} (M : Meaning Val) (C : Callees) (σ τ : Env Val) (n : ℕ) (a : ℕ) (c : Clock) → Flags M σ τ n a c → (f : ℕ) (es ds : Exprs) (α : Unset Val) (t s : ℕ) → suc t < n → on M σ c (suc t) ≡ false → last (on M σ c) (suc t) ≡ some s
    → value M C (gate C.condact a f es ds) τ α base (suc t) ≡ value M C (gate C.condact a f es ds) τ α base t
unfolding value on gated_at
gate-keeps {Val} M C σ τ n a c fl f es ds α t s l o q =
    let p : ℕ → Bool = λ r. on M τ base r && M.is_true (τ a r) in
    let e : last p (suc t) ≡ some s = last-cong p (on M σ c) (suc t) (λ r u. fl r (omega arith)) ∙ q in
    let e₁ : last p (suc (suc t)) ≡ some s = ap (λ (b : Bool). choose b (some (suc t)) (last p (suc t))) (fl (suc t) l ∙ o) ∙ e in
    rw (eqb-self C.condact) (same (last p (suc (suc t))) (last p (suc t)) s _ _ _ e₁ e)
  where
    same : (o u : Option ℕ) (s : ℕ) (x y : Val) (f : ℕ → Val) → o ≡ some s → u ≡ some s → since o x f ≡ since u y f
    same o u s x y f p q = rw (p, q)

-- the rewriting of one equation
module _ (types : List TypeDef) (nodes : List Node) (new : Stem → ℕ → ℕ) (condact : ℕ) (node : Node) (i : ℕ) where
  -- a call on a clock, after rewriting
  data CallShape (c : Clock) (f : ℕ) (fs : Exprs) (s : State) : Expr → State → Type 0 where
    stays : CallShape c f fs s (Expr.call f fs) s
    gates : (ds : Exprs) → CallShape c f fs s (gate condact (flag_name new c s) f fs ds) (with_condact (with_flag c s))

  call_shape : (c : Clock) (f : ℕ) (fs : Exprs) (s : State) → Yields (CallShape c f fs s) (call_on types nodes new condact node i c f fs s)
  call_shape c f fs s = call_on-yields types nodes new condact node i c f fs s (λ b. stays) (λ b. stays) (λ b u ds. gates ds)

  -- the right side of several left names on a clock is a gated call, R being what is known of its arguments
  pub record GatedCall (R : Exprs → State → Type 0) (c : Clock) (f : ℕ) (r : Expr) (s : State) : Type 0 where
    pub arguments : Exprs
    pub defaults : Exprs
    pub before : State
    pub leads : Leads (with_flag c before) s
    pub known : R arguments before
    pub is : r ≡ gate condact (flag_name new c before) f arguments defaults

  pub several-gated : {R : Exprs → State → Type 0} (c : Clock) (k : Condition) (x y : ℕ) (xs : List ℕ) (f : ℕ) (es : Exprs) (s : State) → eqb f condact ≡ false
      → Yields R (rewrites types nodes new condact node i (c ↓ k) es s)
      → Yields (GatedCall R (c ↓ k) f) (right_side types nodes new condact node i (c ↓ k) (x ∷ y ∷ xs) (Expr.call f es) s)
  unfolding right_side
  several-gated {R} c k x y xs f es s nc h = yields-after _ (yields-after {R = Shaped} _ h (λ fs s₁ r. yields-map (λ e s₂ p. (fs, s₁, r, p)) (call_shape (c ↓ k) f fs s₁))) (λ e s₂ p. go p.0 p.1 p.2 e s₂ p.3)
    where
      d : Clock
      d = c ↓ k

      Shaped : Expr → State → Type 0
      Shaped e s₂ = (fs : Exprs) × (s₁ : State) × R fs s₁ × CallShape (c ↓ k) f fs s₁ e s₂

      go : (fs : Exprs) (s₁ : State) → R fs s₁ → (e : Expr) (s₂ : State) → CallShape (c ↓ k) f fs s₁ e s₂
          → Yields (GatedCall R (c ↓ k) f) (under_flag types nodes new condact node i (x ∷ y ∷ xs) (Expr.var (flag_name new (c ↓ k) s₂)) e (with_flag (c ↓ k) s₂))
      go fs s₁ r e s₂ stays = gate_several-yields types nodes new condact node i (x ∷ y ∷ xs) (Expr.var (flag_name new (c ↓ k) s₁)) (Expr.call f fs) (with_flag (c ↓ k) s₁)
          (λ q. absurd (true≢false (sym (eqb-self condact) ∙ (ap (λ (z : ℕ). eqb z condact) (sym (calls-eq f condact q)) ∙ nc))))
          (λ g q u ds. record { arguments = fs; defaults = ds; before = s₁; leads = leads-condact (with_flag d s₁); known = r; is = refl })
      go fs s₁ r e s₂ (gates ds) = gate_several-yields types nodes new condact node i (x ∷ y ∷ xs) _ (gate condact (flag_name new d s₁) f fs ds) (with_flag d (with_condact (with_flag d s₁)))
          (λ q. record { arguments = fs; defaults = ds; before = s₁; leads = leads-trans (with_flag d s₁) (with_condact (with_flag d s₁)) _ (leads-condact (with_flag d s₁)) (leads-flag d (with_condact (with_flag d s₁))); known = r; is = refl })
          (λ g q u ds₁. absurd (true≢false (sym (eqb-self condact) ∙ (ap (λ (z : ℕ). eqb z condact) (calls-eq condact g q) ∙ u))))
