-- What the code's answers say of an expression that was read.
use Rattle.std.specs.Prelude.{◌≡◌, List, ℕ, ◌-◌, ◌≤◌, ◌<◌, length}
use Rattle.definitions.specs.declared.ExprToken.{ExprToken}
use Rattle.definitions.specs.Tokens.{TagValue}
use Rattle.definitions.specs.Tree.{Expr, Exprs}
use Rattle.definitions.specs.Reading.{got}
use Rattle.definitions.specs.Grammar.{form}
use Rattle.operands.specs.declared.Gap.{Gap}
use Rattle.operands.specs.declared.Operands.{Operands}
use Rattle.operands.specs.declared.Operand.{Operand}
use Rattle.operands.specs.declared.View.{View}
use Rattle.operands.specs.Role.{role_of_expr, operands_of}
use Rattle.operands.specs.Spread.{tree, spread}

-- M is the number of names
module _ (M : ℕ) (ts : List TagValue) where
  -- the operands that follow the first token t, from p on
  pub record OperandsLaid (t : ExprToken) (p : ℕ) (o : Operands) : Type 0 where
    pub operands : (e : Expr) (q : ℕ) → form M t (tree M) ts p ≡ got e q →
        spread M o.rest.gap o.count (tree M) ts o.rest.next ≡ got (operands_of e) q
    pub past : (e : Expr) (q : ℕ) → form M t (tree M) ts p ≡ got e q → p ≤ o.rest.next

  -- the expression at p: what it does, and its operands
  pub record Viewed (p : ℕ) (v : View) : Type 0 where
    pub role : (e : Expr) (q : ℕ) → tree M ts p ≡ got e q → v.role ≡ role_of_expr e
    pub operands : (e : Expr) (q : ℕ) → tree M ts p ≡ got e q →
        spread M v.operands.rest.gap v.operands.count (tree M) ts v.operands.rest.next ≡ got (operands_of e) q
    pub past : (e : Expr) (q : ℕ) → tree M ts p ≡ got e q → p < v.operands.rest.next
    pub within : (e : Expr) (q : ℕ) → tree M ts p ≡ got e q → (v.operands.rest.next ≤ q) × (q ≤ length ts)
    -- past the end nothing is viewed
    pub inside : p < v.operands.rest.next → p < length ts

  -- n operands es with the gap g from p to q, the first of them as o says
  pub record Split (g : Gap) (n p : ℕ) (es : Exprs) (q : ℕ) (o : Operand) : Type 0 where
    pub first : Expr
    pub end : ℕ
    pub rest : Exprs
    pub whole : es ≡ Exprs.and first rest
    pub here : tree M ts o.at ≡ got first end
    pub others : spread M o.rest.gap (n - 1) (tree M) ts o.rest.next ≡ got rest q
    pub past : p < o.rest.next
    pub within : (o.at < end) × (end ≤ o.rest.next) × (o.rest.next ≤ q) × (end ≤ length ts)

  -- the first of the operands with this gap that stand from p on
  pub record Stepped (g : Gap) (p : ℕ) (o : Operand) : Type 0 where
    pub at-or-past : p ≤ o.at
    pub split : (n : ℕ) (es : Exprs) (q : ℕ) → (n ≡ 0 → ⊥) → spread M g n (tree M) ts p ≡ got es q → Split g n p es q o
