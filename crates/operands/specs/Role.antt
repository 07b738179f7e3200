-- What an expression does, by its first token and by its tree, and the tree's operands.
use Rattle.definitions.specs.declared.Test.{Test}
use Rattle.definitions.specs.declared.ExprToken.{ExprToken}
use Rattle.definitions.specs.Tree.{Head, Expr, Exprs}
use Rattle.operands.specs.declared.Role.{Role}

-- by its first token
abbrev pub role_of : ExprToken → Role
role_of (ExprToken.Const l) = Role.Constant
role_of (ExprToken.Var x) = Role.Name x
role_of (ExprToken.Unary o) = Role.Compute
role_of (ExprToken.Binary o) = Role.Compute
role_of ExprToken.If = Role.Compute
role_of ExprToken.Pre = Role.Previous
role_of ExprToken.Arrow = Role.Follow
role_of (ExprToken.Call f) = Role.Call f
role_of (ExprToken.Field x) = Role.Compute
role_of ExprToken.Index = Role.Index
role_of ExprToken.Tuple = Role.Compute
role_of ExprToken.Array = Role.Compute
role_of (ExprToken.Struct x) = Role.Compute
role_of ExprToken.Cast = Role.Compute
role_of (ExprToken.When x) = Role.Sample (record { name = x; test = Test.On })
role_of (ExprToken.WhenNot x) = Role.Sample (record { name = x; test = Test.Not })
role_of (ExprToken.Merge x) = Role.Join x
role_of (ExprToken.Map f) = Role.Compute
role_of (ExprToken.Fold f) = Role.Compute

-- of a form that computes
abbrev pub role_of_head : Head → Role
role_of_head (Head.unary o) = Role.Compute
role_of_head (Head.binary o) = Role.Compute
role_of_head (Head.field x) = Role.Compute
role_of_head Head.if = Role.Compute
role_of_head Head.index = Role.Index
role_of_head Head.tuple = Role.Compute
role_of_head Head.array = Role.Compute
role_of_head (Head.struct x fs) = Role.Compute
role_of_head (Head.cast a) = Role.Compute
role_of_head (Head.map f k) = Role.Compute
role_of_head (Head.fold f k) = Role.Compute

-- by its tree
unfoldable pub role_of_expr : Expr → Role
role_of_expr (Expr.const l w) = Role.Constant
role_of_expr (Expr.var x) = Role.Name x
role_of_expr (Expr.op h es) = role_of_head h
role_of_expr (Expr.pre e) = Role.Previous
role_of_expr (Expr.arrow a b) = Role.Follow
role_of_expr (Expr.call f es) = Role.Call f
role_of_expr (Expr.when k e) = Role.Sample k
role_of_expr (Expr.merge x a b) = Role.Join x

-- one operand, and two
abbrev pub one : Expr → Exprs
one e = Exprs.and e Exprs.end

abbrev pub two : Expr → Expr → Exprs
two a b = Exprs.and a (one b)

-- the operands of an expression, in order
unfoldable pub operands_of : Expr → Exprs
operands_of (Expr.const l w) = Exprs.end
operands_of (Expr.var x) = Exprs.end
operands_of (Expr.op h es) = es
operands_of (Expr.pre e) = one e
operands_of (Expr.arrow a b) = two a b
operands_of (Expr.call f es) = es
operands_of (Expr.when k e) = one e
operands_of (Expr.merge x a b) = two a b
