-- What follows an expression's first token, for the code's sake: the definitions' `form`, without the tree.
use Rattle.std.specs.Prelude.{ℕ}
use Rattle.definitions.specs.declared.Literal.{Literal}
use Rattle.definitions.specs.declared.ExprToken.{ExprToken}
use Rattle.definitions.specs.Tree.{Expr, Exprs}
use Rattle.definitions.specs.Reading.{Reader, ◌>>=◌, return}
use Rattle.definitions.specs.Grammar.{high, exprs, count, counted, fields, ty, most_counted, deepest_type}
use Rattle.grammar.specs.declared.Shape.{Shape}

abbrev pub literal_shape : Literal → Shape
literal_shape (Literal.Bool v) = Shape.Operands 0
literal_shape (Literal.Int v) = Shape.Wide
literal_shape (Literal.Float v) = Shape.Wide
literal_shape (Literal.Char v) = Shape.Operands 0

abbrev pub shape_of : ExprToken → Shape
shape_of (ExprToken.Const l) = literal_shape l
shape_of (ExprToken.Var x) = Shape.Operands 0
shape_of (ExprToken.Unary o) = Shape.Operands 1
shape_of (ExprToken.Binary o) = Shape.Operands 2
shape_of ExprToken.If = Shape.Operands 3
shape_of ExprToken.Pre = Shape.Operands 1
shape_of ExprToken.Arrow = Shape.Operands 2
shape_of (ExprToken.Call f) = Shape.Items
shape_of (ExprToken.Field x) = Shape.Operands 1
shape_of ExprToken.Index = Shape.Operands 2
shape_of ExprToken.Tuple = Shape.Items
shape_of ExprToken.Array = Shape.Items
shape_of (ExprToken.Struct x) = Shape.Fields
shape_of ExprToken.Cast = Shape.Cast
shape_of (ExprToken.When x) = Shape.Operands 1
shape_of (ExprToken.WhenNot x) = Shape.Operands 1
shape_of (ExprToken.Merge x) = Shape.Operands 2
shape_of (ExprToken.Map f) = Shape.Iteration
shape_of (ExprToken.Fold f) = Shape.Iteration

-- M is the number of names
module _ (M : ℕ) where
  -- the operands that follow a first token of this shape, r reading one
  unfoldable pub following : Shape → Reader Expr → Reader Exprs
  following Shape.Wide r = high >>= λ w. return Exprs.end
  following (Shape.Operands k) r = exprs k r
  following Shape.Items r = count most_counted >>= λ n. exprs n r
  following Shape.Fields r = count most_counted >>= λ n. fields M n r >>= λ fs. return fs.1
  following Shape.Cast r = ty M deepest_type >>= λ a. exprs 1 r
  following Shape.Iteration r = counted 3 0 1 >>= λ k. exprs k r >>= λ s. count most_counted >>= λ n. exprs n r
