-- What follows a first token, as operands: the definitions' `form` read as its shape says, with the tree's role and operands.
-- Assumes nothing.
use mathlib.Core.Path.{◌≡◌, refl, ◌∙◌, ap}
use mathlib.Core.List.{List}
use Prim.Native.Nat.{ℕ}
use Rattle.definitions.specs.declared.Literal.{Literal}
use Rattle.definitions.specs.declared.ExprToken.{ExprToken}
use Rattle.definitions.specs.Tokens.{TagValue}
use Rattle.definitions.specs.Tree.{Head, Expr, Exprs}
use Rattle.definitions.specs.Reading.{Got, got, rejected, Reader, ◌>>=◌, return, after}
use Rattle.definitions.specs.Grammar.{high, count, counted, ty, append, exprs, fields, constant, form, most_counted, deepest_type}
use Rattle.grammar.specs.declared.Shape.{Shape}
use Rattle.grammar.specs.Shape.{shape_of, literal_shape}
use Rattle.operands.specs.declared.Role.{Role}
use Rattle.operands.specs.Role.{role_of, role_of_expr, operands_of, one, two}

-- the operands that follow a first token of this shape, r reading one
unfoldable pub laid : ℕ → Shape → Reader Expr → Reader Exprs
laid M Shape.Wide r = high >>= λ w. return Exprs.end
laid M (Shape.Operands k) r = exprs k r
laid M Shape.Items r = count most_counted >>= λ n. exprs n r
laid M Shape.Fields r = count most_counted >>= λ n. fields M n r >>= λ fs. return fs.1
laid M Shape.Cast r = ty M deepest_type >>= λ a. exprs 1 r
laid M Shape.Iteration r = counted 3 0 1 >>= λ k. exprs k r >>= λ s. count most_counted >>= λ n. exprs n r >>= λ es. return (append s es)

module _ (e : Expr) (q : ℕ) (ρ : Role) where
  -- y has the operands of e, and ρ is its role
  abbrev Has : Got Exprs → Type 0
  Has y = (ρ ≡ role_of_expr e) × (y ≡ got (operands_of e) q)

  has : (f : Expr) (es : Exprs) (s : ℕ) → ρ ≡ role_of_expr f → es ≡ operands_of f → got f s ≡ got e q → Has (got es s)
  has f es s a b g = let i : f ≡ e = cc in let j : s ≡ q = cc in (a ∙ ap role_of_expr i, cc (ap operands_of i))

  has-after : {A : Type 0} (x : Got A) (f : A → ℕ → Got Expr) (g : A → ℕ → Got Exprs) → ((a : A) (s : ℕ) → f a s ≡ got e q → Has (g a s)) → after x f ≡ got e q → Has (after x g)
  has-after (got a s) f g h i = h a s i
  has-after (rejected t) f g h i = absurd cc

  has_all : (x : Got Exprs) (H : Exprs → Expr) → ((es : Exprs) → ρ ≡ role_of_expr (H es)) → ((es : Exprs) → es ≡ operands_of (H es)) → after x (λ es s. got (H es) s) ≡ got e q → Has x
  has_all (got es s) H a b g = has (H es) es s (a es) (b es) g
  has_all (rejected t) H a b g = absurd cc

module _ (M : ℕ) (r : Reader Expr) (ts : List TagValue) (p : ℕ) (e : Expr) (q : ℕ) where
  has-literal : (l : Literal) → constant M l ts p ≡ got e q → Has e q Role.Constant (laid M (literal_shape l) r ts p)
  unfolding constant laid exprs role_of_expr operands_of
  has-literal (Literal.Bool v) g = has e q _ (Expr.const (Literal.Bool v) 0) _ p refl refl g
  has-literal (Literal.Int v) g = has-after e q _ (high ts p) _ _ (λ w s. has e q _ (Expr.const (Literal.Int v) w) _ s refl refl) g
  has-literal (Literal.Float v) g = has-after e q _ (high ts p) _ _ (λ w s. has e q _ (Expr.const (Literal.Float v) w) _ s refl refl) g
  has-literal (Literal.Char v) g = has e q _ (Expr.const (Literal.Char v) 0) _ p refl refl g

  has_one : (ρ : Role) (H : Expr → Expr) → ((a : Expr) → ρ ≡ role_of_expr (H a)) → ((a : Expr) → one a ≡ operands_of (H a)) → after (r ts p) (λ a s. got (H a) s) ≡ got e q → Has e q ρ (laid M (Shape.Operands 1) r ts p)
  unfolding laid exprs
  has_one ρ H a b g = has-after e q ρ (r ts p) _ _ (λ x s. has e q ρ (H x) _ s (a x) (b x)) g

  has-two : (ρ : Role) (H : Expr → Expr → Expr) → ((a b : Expr) → ρ ≡ role_of_expr (H a b)) → ((a b : Expr) → two a b ≡ operands_of (H a b)) → after (r ts p) (λ a s. after (r ts s) (λ b u. got (H a b) u)) ≡ got e q → Has e q ρ (laid M (Shape.Operands 2) r ts p)
  unfolding laid exprs
  has-two ρ H a b g = has-after e q ρ (r ts p) _ _ (λ x s h. go x (r ts s) h) g
    where
      go : (x : Expr) (y : Got Expr) → after y (λ b u. got (H x b) u) ≡ got e q → Has e q ρ (after (after y (λ b u. got (one b) u)) (λ es u. got (Exprs.and x es) u))
      go x (got y u) h = has e q ρ (H x y) _ u (a x y) (b x y) h
      go x (rejected t) h = absurd cc

  has-items : (ρ : Role) (H : Exprs → Expr) → ((es : Exprs) → ρ ≡ role_of_expr (H es)) → ((es : Exprs) → es ≡ operands_of (H es)) → after (count most_counted ts p) (λ n s. after (exprs n r ts s) (λ es u. got (H es) u)) ≡ got e q → Has e q ρ (laid M Shape.Items r ts p)
  unfolding laid
  has-items ρ H a b g = has-after e q ρ (count most_counted ts p) _ _ (λ n s. has_all e q ρ (exprs n r ts s) H a b) g

  has-iteration : (H : ℕ → Head) → ((k : ℕ) (es : Exprs) → Role.Compute ≡ role_of_expr (Expr.op (H k) es)) → after (counted 3 0 1 ts p) (λ k q. after (exprs k r ts q) (λ s u. after (count most_counted ts u) (λ n w. after (exprs n r ts w) (λ es x. got (Expr.op (H k) (append s es)) x)))) ≡ got e q → Has e q Role.Compute (laid M Shape.Iteration r ts p)
  unfolding laid operands_of
  has-iteration H a g =
      has-after e q _ (counted 3 0 1 ts p) _ _ (λ k s. has-after e q _ (exprs k r ts s) _ _ (λ ss u. has-after e q _ (count most_counted ts u) _ _ (λ n w. has-after e q _ (exprs n r ts w) _ _ (λ es x. has e q _ (Expr.op (H k) (append ss es)) _ x (a k (append ss es)) refl)))) g

  -- the role and the operands of an expression, by its first token
  pub formed : (t : ExprToken) → form M t r ts p ≡ got e q → (role_of t ≡ role_of_expr e) × (laid M (shape_of t) r ts p ≡ got (operands_of e) q)
  unfolding form laid role_of_expr operands_of exprs
  formed (ExprToken.Const l) g = has-literal l g
  formed (ExprToken.Var x) g = has e q _ (Expr.var x) _ p refl refl g
  formed (ExprToken.Unary o) g = has_all e q _ (exprs 1 r ts p) (Expr.op (Head.unary o)) (λ es. refl) (λ es. refl) g
  formed (ExprToken.Binary o) g = has_all e q _ (exprs 2 r ts p) (Expr.op (Head.binary o)) (λ es. refl) (λ es. refl) g
  formed ExprToken.If g = has_all e q _ (exprs 3 r ts p) (Expr.op Head.if) (λ es. refl) (λ es. refl) g
  formed ExprToken.Pre g = has_one _ Expr.pre (λ a. refl) (λ a. refl) g
  formed ExprToken.Arrow g = has-two _ Expr.arrow (λ a b. refl) (λ a b. refl) g
  formed (ExprToken.Call f) g = has-items _ (Expr.call f) (λ es. refl) (λ es. refl) g
  formed (ExprToken.Field x) g = has_all e q _ (exprs 1 r ts p) (Expr.op (Head.field x)) (λ es. refl) (λ es. refl) g
  formed ExprToken.Index g = has_all e q _ (exprs 2 r ts p) (Expr.op Head.index) (λ es. refl) (λ es. refl) g
  formed ExprToken.Tuple g = has-items _ (Expr.op Head.tuple) (λ es. refl) (λ es. refl) g
  formed ExprToken.Array g = has-items _ (Expr.op Head.array) (λ es. refl) (λ es. refl) g
  formed (ExprToken.Struct x) g =
      has-after e q _ (count most_counted ts p) _ _ (λ n s. has-after e q _ (fields M n r ts s) _ _ (λ fs u. has e q _ (Expr.op (Head.struct x fs.0) fs.1) _ u refl refl)) g
  formed ExprToken.Cast g = has-after e q _ (ty M deepest_type ts p) _ _ (λ a s. has_all e q _ (exprs 1 r ts s) (Expr.op (Head.cast a)) (λ es. refl) (λ es. refl)) g
  formed (ExprToken.When x) g = has_one _ (Expr.when _) (λ a. refl) (λ a. refl) g
  formed (ExprToken.WhenNot x) g = has_one _ (Expr.when _) (λ a. refl) (λ a. refl) g
  formed (ExprToken.Merge x) g = has-two _ (Expr.merge x) (λ a b. refl) (λ a b. refl) g
  formed (ExprToken.Map f) g = has-iteration (Head.map f) (λ k es. refl) g
  formed (ExprToken.Fold f) g = has-iteration (Head.fold f) (λ k es. refl) g
