-- An expression that is read at a depth is read at every greater one: so each part of an accepted expression is one at the full depth.
-- Assumes nothing.
use mathlib.Core.Path.{◌≡◌}
use mathlib.Core.List.{List}
use mathlib.Core.Bool.{false}
use Prim.Native.Nat.{ℕ, zero, suc, ◌+◌, ◌-◌, ◌<◌}
use native.Mathlib.Numerals.{sub-one}
use native.Mathlib.Nat.{zero-add, suc-add}
use lib.ListN.{length}
use Rattle.definitions.specs.declared.ExprToken.{ExprToken}
use Rattle.definitions.specs.Tokens.{TagValue, expr_token_of}
use Rattle.definitions.specs.Tree.{Head, Expr, Exprs}
use Rattle.definitions.specs.Reading.{got, Reader, ◌>>=◌, return, token, limited}
use Rattle.definitions.specs.Grammar.{name, count, counted, ty, exprs, fields, iteration, form, expr, most_counted, deepest_type}
use Rattle.grammar.proofs.Laws.{after-got}
use Rattle.grammar.proofs.Longer.{token-got}
use Rattle.operands.specs.Spread.{tree}

-- what one reading gives, another gives too
abbrev pub Lifts : {A : Type 0} → Reader A → Reader A → Type 0
Lifts {A} r s = (ts : List TagValue) (p : ℕ) (a : A) (q : ℕ) → r ts p ≡ got a q → s ts p ≡ got a q

lifts-same : {A : Type 0} (r : Reader A) → Lifts r r
lifts-same r ts p a q g = g

lifts-then : {A B : Type 0} (r s : Reader A) (f g : A → Reader B) → Lifts r s → ((a : A) → Lifts (f a) (g a)) → Lifts (r >>= f) (s >>= g)
lifts-then r s f g h k ts p b q e =
    let m = after-got (r ts p) _ b q e in
    rw (h ts p m.0 m.1 m.2) (k m.0 ts m.1 b q m.3)

module _ (M : ℕ) (r s : Reader Expr) (h : Lifts r s) where
  exprs-lifts : (k : ℕ) → Lifts (exprs k r) (exprs k s)
  unfolding exprs
  exprs-lifts zero = lifts-same _
  exprs-lifts (suc k) = lifts-then r s _ _ h (λ e. lifts-then (exprs k r) (exprs k s) _ _ (exprs-lifts k) (λ es. lifts-same _))

  fields-lifts : (k : ℕ) → Lifts (fields M k r) (fields M k s)
  unfolding fields
  fields-lifts zero = lifts-same _
  fields-lifts (suc k) = lifts-then (name M) (name M) _ _ (lifts-same _) (λ f. lifts-then r s _ _ h (λ e. lifts-then (fields M k r) (fields M k s) _ _ (fields-lifts k) (λ rest. lifts-same _)))

  some-lift : (H : Exprs → Expr) (k : ℕ) → Lifts (exprs k r >>= λ es. return (H es)) (exprs k s >>= λ es. return (H es))
  some-lift H k = lifts-then (exprs k r) (exprs k s) _ _ (exprs-lifts k) (λ es. lifts-same _)

  items-lift : (H : Exprs → Expr) → Lifts (count most_counted >>= λ n. exprs n r >>= λ es. return (H es)) (count most_counted >>= λ n. exprs n s >>= λ es. return (H es))
  items-lift H = lifts-then (count most_counted) (count most_counted) _ _ (lifts-same _) (λ n. some-lift H n)

  iteration-lifts : (H : ℕ → Head) → Lifts (iteration M H r) (iteration M H s)
  iteration-lifts H = lifts-then (counted 3 0 1) (counted 3 0 1) _ _ (lifts-same _) (λ k. lifts-then (exprs k r) (exprs k s) _ _ (exprs-lifts k) (λ b. items-lift _))

  one-lifts : (H : Expr → Expr) → Lifts (r >>= λ a. return (H a)) (s >>= λ a. return (H a))
  one-lifts H = lifts-then r s _ _ h (λ a. lifts-same _)

  two-lift : (H : Expr → Expr → Expr) → Lifts (r >>= λ a. r >>= λ b. return (H a b)) (s >>= λ a. s >>= λ b. return (H a b))
  two-lift H = lifts-then r s _ _ h (λ a. one-lifts (H a))

  pub form-lifts : (t : ExprToken) → Lifts (form M t r) (form M t s)
  unfolding form
  form-lifts (ExprToken.Const l) = lifts-same _
  form-lifts (ExprToken.Var x) = lifts-same _
  form-lifts (ExprToken.Unary o) = some-lift _ 1
  form-lifts (ExprToken.Binary o) = some-lift _ 2
  form-lifts ExprToken.If = some-lift _ 3
  form-lifts ExprToken.Pre = one-lifts _
  form-lifts ExprToken.Arrow = two-lift _
  form-lifts (ExprToken.Call f) = items-lift _
  form-lifts (ExprToken.Field x) = some-lift _ 1
  form-lifts ExprToken.Index = some-lift _ 2
  form-lifts ExprToken.Tuple = items-lift _
  form-lifts ExprToken.Array = items-lift _
  form-lifts (ExprToken.Struct x) = lifts-then (count most_counted) (count most_counted) _ _ (lifts-same _) (λ n. lifts-then (fields M n r) (fields M n s) _ _ (fields-lifts n) (λ fs. lifts-same _))
  form-lifts ExprToken.Cast = lifts-then (ty M deepest_type) (ty M deepest_type) _ _ (lifts-same _) (λ a. some-lift _ 1)
  form-lifts (ExprToken.When x) = one-lifts _
  form-lifts (ExprToken.WhenNot x) = one-lifts _
  form-lifts (ExprToken.Merge x) = two-lift _
  form-lifts (ExprToken.Map f) = iteration-lifts _
  form-lifts (ExprToken.Fold f) = iteration-lifts _

-- nothing is read at depth 0
pub expr-none : (M : ℕ) (ts : List TagValue) (p : ℕ) (e : Expr) (q : ℕ) → expr M zero ts p ≡ got e q → ⊥
unfolding expr limited
expr-none M ts p e q g =
    let m = after-got (limited (λ h. false) (token (expr_token_of M)) ts p) _ e q g in
    let n = after-got (token (expr_token_of M) ts p) _ m.0 m.1 m.2 in
    cc n.3

-- one level deeper
pub expr-lifts : (M d : ℕ) → Lifts (expr M d) (expr M (suc d))
unfolding expr
expr-lifts M zero ts p e q g = absurd (expr-none M ts p e q g)
expr-lifts M (suc d) ts p e q g =
    lifts-then (token (expr_token_of M)) (token (expr_token_of M)) _ _ (lifts-same _) (λ t. form-lifts M (expr M d) (expr M (suc d)) (expr-lifts M d) t) ts p e q g

-- any number of levels deeper
pub expr-deeper : (M d n : ℕ) → Lifts (expr M d) (expr M (n + d))
expr-deeper M d zero ts p e q g = rw (zero-add d) g
expr-deeper M d (suc n) ts p e q g = rw (suc-add n d) (expr-lifts M (n + d) ts p e q (expr-deeper M d n ts p e q g))

-- an expression's first token, and what follows it
pub expr-head : (M d : ℕ) (ts : List TagValue) (p : ℕ) (e : Expr) (q : ℕ) → expr M d ts p ≡ got e q →
    (t : ExprToken) × (token (expr_token_of M) ts p ≡ got t (p + 1)) × (form M t (expr M (d - 1)) ts (p + 1) ≡ got e q) × (p < length ts)
unfolding expr
expr-head M zero ts p e q g = absurd (expr-none M ts p e q g)
expr-head M (suc d) ts p e q g =
    let m = after-got (token (expr_token_of M) ts p) _ e q g in
    let h = token-got (expr_token_of M) ts p m.0 m.1 m.2 in
    (m.0, rw h.0 at m.2, rw (sub-one (suc d)) (rw h.0 at m.3), h.1)

-- the same of an expression of an accepted sheet, whose operands are such expressions
pub tree-head : (M : ℕ) (ts : List TagValue) (p : ℕ) (e : Expr) (q : ℕ) → tree M ts p ≡ got e q →
    (t : ExprToken) × (token (expr_token_of M) ts p ≡ got t (p + 1)) × (form M t (tree M) ts (p + 1) ≡ got e q) × (p < length ts)
tree-head M ts p e q g =
    let h = expr-head M 32 ts p e q g in
    (h.0, h.1, form-lifts M (expr M 31) (expr M 32) (expr-lifts M 31) h.0 ts (p + 1) e q h.2, h.3)
