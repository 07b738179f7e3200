-- The tree that has a role: what an arm of a match on the role knows.
-- Assumes nothing.
use mathlib.Core.Path.{◌≡◌, refl, sym, ◌∙◌}
use Prim.Native.Nat.{ℕ}
use Rattle.definitions.specs.declared.Literal.{Literal}
use Rattle.definitions.specs.Tree.{Head, Expr, Exprs}
use Rattle.operands.specs.declared.Role.{Role}
use Rattle.operands.specs.Role.{role_of_head, role_of_expr}

-- a tree of this role
abbrev pub Is : Role → Expr → Type 0
Is Role.Constant e = (l : Literal) × (w : ℕ) × (e ≡ Expr.const l w)
Is (Role.Name x) e = e ≡ Expr.var x
Is (Role.Sample k) e = (a : Expr) × (e ≡ Expr.when k a)
Is (Role.Join x) e = (a b : Expr) × (e ≡ Expr.merge x a b)
Is Role.Previous e = (a : Expr) × (e ≡ Expr.pre a)
Is Role.Follow e = (a b : Expr) × (e ≡ Expr.arrow a b)
Is (Role.Call f) e = (es : Exprs) × (e ≡ Expr.call f es)
Is Role.Index e = (es : Exprs) × (e ≡ Expr.op Head.index es)
Is Role.Compute e = (h : Head) × (es : Exprs) × (e ≡ Expr.op h es)

form-is : (h : Head) (es : Exprs) → Is (role_of_head h) (Expr.op h es)
form-is (Head.unary o) es = (Head.unary o, es, refl)
form-is (Head.binary o) es = (Head.binary o, es, refl)
form-is (Head.field x) es = (Head.field x, es, refl)
form-is Head.if es = (Head.if, es, refl)
form-is Head.index es = (es, refl)
form-is Head.tuple es = (Head.tuple, es, refl)
form-is Head.array es = (Head.array, es, refl)
form-is (Head.struct x fs) es = (Head.struct x fs, es, refl)
form-is (Head.cast a) es = (Head.cast a, es, refl)
form-is (Head.map f k) es = (Head.map f k, es, refl)
form-is (Head.fold f k) es = (Head.fold f k, es, refl)

tree_is : (e : Expr) → Is (role_of_expr e) e
unfolding role_of_expr
tree_is (Expr.const l w) = (l, w, refl)
tree_is (Expr.var x) = refl
tree_is (Expr.op h es) = form-is h es
tree_is (Expr.pre a) = (a, refl)
tree_is (Expr.arrow a b) = (a, b, refl)
tree_is (Expr.call f es) = (es, refl)
tree_is (Expr.when k a) = (a, refl)
tree_is (Expr.merge x a b) = (a, b, refl)

-- an arm for one role: v is what the code found, ρ the arm's
pub arm : (e : Expr) (v ρ : Role) → v ≡ role_of_expr e → v ≡ ρ → Is ρ e
arm e v ρ i j = rw (sym j ∙ i) (tree_is e)
