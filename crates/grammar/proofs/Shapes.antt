-- What follows a first token is read as its shape says: the definitions' `form` has the outcome of `following`.
-- Assumes nothing.
use Rattle.std.specs.Prelude.{Result, Ok}
use mathlib.Core.Path.{◌≡◌, refl, sym, ◌∙◌, ap}
use mathlib.Core.List.{List}
use Prim.Native.Nat.{ℕ, ◌-◌}
use Rattle.definitions.specs.declared.Refusal.{Refusal}
use Rattle.definitions.specs.declared.Literal.{Literal}
use Rattle.definitions.specs.declared.ExprToken.{ExprToken}
use Rattle.definitions.specs.Tokens.{TagValue, expr_token_of}
use Rattle.definitions.specs.Tree.{Expr, Exprs}
use Rattle.definitions.specs.Reading.{Got, got, rejected, Reader, after, token}
use Rattle.definitions.specs.Grammar.{high, count, counted, exprs, fields, constant, ty, form, expr, most_counted, deepest_type}
use Rattle.grammar.specs.declared.Shape.{Shape}
use Rattle.grammar.specs.Outcome.{outcome, told}
use Rattle.grammar.specs.Shape.{shape_of, literal_shape, following}
use Rattle.grammar.proofs.Laws.{wrap, expr-step, told-got}

-- two readings that go on alike have the same outcome
pub alike : {A B C : Type 0} (x : Got A) (f : A → ℕ → Got B) (g : A → ℕ → Got C) → ((a : A) (q : ℕ) → outcome (f a q) ≡ outcome (g a q)) → outcome (after x f) ≡ outcome (after x g)
alike (got a q) f g h = h a q
alike (rejected r) f g h = refl

module _ (M : ℕ) (R : Reader Expr) (ts : List TagValue) (p : ℕ) where
  literal-formed : (l : Literal) → outcome (constant M l ts p) ≡ outcome (following M (literal_shape l) R ts p)
  unfolding constant following exprs
  literal-formed (Literal.Bool v) = refl
  literal-formed (Literal.Int v) = alike (high ts p) _ _ (λ a q. refl)
  literal-formed (Literal.Float v) = alike (high ts p) _ _ (λ a q. refl)
  literal-formed (Literal.Char v) = refl

  items : (H : Exprs → Expr) → outcome (after (count most_counted ts p) (λ n q. after (exprs n R ts q) (λ es s. got (H es) s))) ≡ outcome (following M Shape.Items R ts p)
  unfolding following
  items H = alike (count most_counted ts p) _ _ (λ n q. sym (wrap (exprs n R ts q) H))

  iteration : (H : ℕ → Exprs → Exprs → Expr) →
      outcome (after (counted 3 0 1 ts p) (λ k q. after (exprs k R ts q) (λ s u. after (count most_counted ts u) (λ n w. after (exprs n R ts w) (λ es x. got (H k s es) x))))) ≡
      outcome (following M Shape.Iteration R ts p)
  unfolding following
  iteration H = alike (counted 3 0 1 ts p) _ _ (λ k q. alike (exprs k R ts q) _ _ (λ s u. alike (count most_counted ts u) _ _ (λ n w. sym (wrap (exprs n R ts w) (H k s)))))

  one : (H : Expr → Expr) → outcome (after (R ts p) (λ a q. got (H a) q)) ≡ outcome (following M (Shape.Operands 1) R ts p)
  unfolding following exprs
  one H = alike (R ts p) _ _ (λ a q. refl)

  two : (H : Expr → Expr → Expr) → outcome (after (R ts p) (λ a q. after (R ts q) (λ b s. got (H a b) s))) ≡ outcome (following M (Shape.Operands 2) R ts p)
  unfolding following exprs
  two H = alike (R ts p) _ _ (λ a q. sym (wrap (R ts q) (H a)) ∙ (wrap (R ts q) (λ b. Exprs.and b Exprs.end) ∙ wrap (after (R ts q) (λ b s. got (Exprs.and b Exprs.end) s)) (Exprs.and a)))

  some-operands : (k : ℕ) (H : Exprs → Expr) → outcome (after (exprs k R ts p) (λ es q. got (H es) q)) ≡ outcome (following M (Shape.Operands k) R ts p)
  unfolding following
  some-operands k H = sym (wrap (exprs k R ts p) H)

  pub formed : (h : ExprToken) → outcome (form M h R ts p) ≡ outcome (following M (shape_of h) R ts p)
  unfolding form following exprs
  formed (ExprToken.Const l) = literal-formed l
  formed (ExprToken.Var x) = refl
  formed (ExprToken.Unary o) = some-operands 1 _
  formed (ExprToken.Binary o) = some-operands 2 _
  formed ExprToken.If = some-operands 3 _
  formed ExprToken.Pre = one _
  formed ExprToken.Arrow = two _
  formed (ExprToken.Call f) = items _
  formed (ExprToken.Field x) = some-operands 1 _
  formed ExprToken.Index = some-operands 2 _
  formed ExprToken.Tuple = items _
  formed ExprToken.Array = items _
  formed (ExprToken.Struct x) = alike (count most_counted ts p) _ _ (λ n q. alike (fields M n R ts q) _ _ (λ fs s. refl))
  formed ExprToken.Cast = alike (ty M deepest_type ts p) _ _ (λ a q. sym (wrap (exprs 1 R ts q) _))
  formed (ExprToken.When x) = one _
  formed (ExprToken.WhenNot x) = one _
  formed (ExprToken.Merge x) = two _
  formed (ExprToken.Map f) = iteration _
  formed (ExprToken.Fold f) = iteration _

-- an expression that is not too deep has the outcome of what follows its first token
pub expr-follows : (M : ℕ) (ts : List TagValue) (p : ℕ) (r : Result (ExprToken × ℕ) Refusal) → r ≡ told (token (expr_token_of M) ts p) → (d q : ℕ) (h : ExprToken) → r ≡ Ok (h, q) →
    (d ≡ 0 → ⊥) → (z : Shape) → z ≡ shape_of h → (s : Result ℕ Refusal) → s ≡ outcome (following M z (expr M (d - 1)) ts q) → s ≡ outcome (expr M d ts p)
expr-follows M ts p r i d q h e n z j s f =
    f ∙ (ap (λ (y : Shape). outcome (following M y (expr M (d - 1)) ts q)) j ∙ (sym (formed M (expr M (d - 1)) ts q h) ∙
    ap outcome (sym (expr-step M ts p d q h n (told-got (token (expr_token_of M) ts p) r h q i e)))))
