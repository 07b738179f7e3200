-- A token is known by its tag and value: `token_of` is the way back from `code_of`.
use mathlib.Core.Path.{◌≡◌, refl, sym, ap, ap₂, ◌∙◌}
use mathlib.Core.List.{List, [], ◌∷◌, map}
use mathlib.Core.Option.{some, some-injective}
use Prim.Native.Nat.{ℕ, ◌<◌}
use native.Mathlib.Omega.{arith}
use Rattle.std.proofs.lemmas.Bool.{lt-ltb}
use Rattle.definitions.specs.declared.UnaryOp.{UnaryOp}
use Rattle.definitions.specs.declared.BinOp.{BinOp}
use Rattle.definitions.specs.declared.Primitive.{Primitive}
use Rattle.definitions.specs.declared.Literal.{Literal}
use Rattle.definitions.specs.declared.NodeKind.{NodeKind}
use Rattle.definitions.specs.declared.TypeToken.{TypeToken}
use Rattle.definitions.specs.declared.DefinitionToken.{DefinitionToken}
use Rattle.definitions.specs.declared.ExprToken.{ExprToken}
use Rattle.definitions.specs.declared.Token.{Token}
use Rattle.definitions.specs.Tokens.{TagValue, words, token_of, code_of, tag_of, value_of}
use Rattle.shapes.proofs.Facts.{All, all_head, all_tail}
use Rattle.shapes.specs.Shape.{Word}

-- the numbers of a token have the values that the format gives them, ids being below M
module _ (M : ℕ) where
  abbrev pub ProperLiteral : Literal → Type 0
  ProperLiteral (Literal.Bool v) = v < 2
  ProperLiteral (Literal.Int v) = Word v
  ProperLiteral (Literal.Float v) = Word v
  ProperLiteral (Literal.Char v) = v < 256

  abbrev pub ProperType : TypeToken → Type 0
  ProperType (TypeToken.Basic p) = Unit {0}
  ProperType (TypeToken.Array n) = Word n
  ProperType (TypeToken.Named x) = x < M

  abbrev pub ProperDefinition : DefinitionToken → Type 0
  ProperDefinition (DefinitionToken.Enum x) = x < M
  ProperDefinition (DefinitionToken.Record x) = x < M
  ProperDefinition (DefinitionToken.Alias x) = x < M

  abbrev pub ProperExpr : ExprToken → Type 0
  ProperExpr (ExprToken.Const l) = ProperLiteral l
  ProperExpr (ExprToken.Var x) = x < M
  ProperExpr (ExprToken.Unary o) = Unit {0}
  ProperExpr (ExprToken.Binary o) = Unit {0}
  ProperExpr ExprToken.If = Unit {0}
  ProperExpr ExprToken.Pre = Unit {0}
  ProperExpr ExprToken.Arrow = Unit {0}
  ProperExpr (ExprToken.Call f) = f < M
  ProperExpr (ExprToken.Field x) = x < M
  ProperExpr ExprToken.Index = Unit {0}
  ProperExpr ExprToken.Tuple = Unit {0}
  ProperExpr ExprToken.Array = Unit {0}
  ProperExpr (ExprToken.Struct x) = x < M
  ProperExpr ExprToken.Cast = Unit {0}
  ProperExpr (ExprToken.When x) = x < M
  ProperExpr (ExprToken.WhenNot x) = x < M
  ProperExpr (ExprToken.Merge x) = x < M
  ProperExpr (ExprToken.Map f) = f < M
  ProperExpr (ExprToken.Fold f) = f < M

  abbrev pub Proper : Token → Type 0
  Proper (Token.Types n) = Word n
  Proper (Token.Nodes n) = Word n
  Proper (Token.Count n) = Word n
  Proper (Token.Name x) = x < M
  Proper (Token.High w) = Word w
  Proper (Token.Definition d) = ProperDefinition d
  Proper (Token.Type a) = ProperType a
  Proper (Token.Node x) = x < M
  Proper (Token.Kind k) = Unit {0}
  Proper (Token.Expression h) = ProperExpr h

  definition-back : (d : DefinitionToken) → ProperDefinition d → token_of M (tag_of (Token.Definition d)) (value_of (Token.Definition d)) ≡ some (Token.Definition d)
  unfolding token_of code_of
  definition-back (DefinitionToken.Enum x) h = rw (lt-ltb x M h)
  definition-back (DefinitionToken.Record x) h = rw (lt-ltb x M h)
  definition-back (DefinitionToken.Alias x) h = rw (lt-ltb x M h)

  primitive-back : (p : Primitive) → token_of M (tag_of (Token.Type (TypeToken.Basic p))) (value_of (Token.Type (TypeToken.Basic p))) ≡ some (Token.Type (TypeToken.Basic p))
  unfolding token_of code_of
  primitive-back Primitive.Bool = refl
  primitive-back Primitive.Int8 = refl
  primitive-back Primitive.Int16 = refl
  primitive-back Primitive.Int32 = refl
  primitive-back Primitive.Int64 = refl
  primitive-back Primitive.Uint8 = refl
  primitive-back Primitive.Uint16 = refl
  primitive-back Primitive.Uint32 = refl
  primitive-back Primitive.Uint64 = refl
  primitive-back Primitive.Float32 = refl
  primitive-back Primitive.Float64 = refl
  primitive-back Primitive.Char = refl

  type-back : (a : TypeToken) → ProperType a → token_of M (tag_of (Token.Type a)) (value_of (Token.Type a)) ≡ some (Token.Type a)
  unfolding token_of code_of
  type-back (TypeToken.Basic p) h = primitive-back p
  type-back (TypeToken.Array n) h = refl
  type-back (TypeToken.Named x) h = rw (lt-ltb x M h)

  binary-back : (o : BinOp) → token_of M (tag_of (Token.Expression (ExprToken.Binary o))) (value_of (Token.Expression (ExprToken.Binary o))) ≡ some (Token.Expression (ExprToken.Binary o))
  unfolding token_of code_of
  binary-back BinOp.And = refl
  binary-back BinOp.Or = refl
  binary-back BinOp.Xor = refl
  binary-back BinOp.Implies = refl
  binary-back BinOp.Eq = refl
  binary-back BinOp.Neq = refl
  binary-back BinOp.Lt = refl
  binary-back BinOp.Le = refl
  binary-back BinOp.Gt = refl
  binary-back BinOp.Ge = refl
  binary-back BinOp.Add = refl
  binary-back BinOp.Sub = refl
  binary-back BinOp.Mul = refl
  binary-back BinOp.Div = refl
  binary-back BinOp.Mod = refl
  binary-back BinOp.BitAnd = refl
  binary-back BinOp.BitOr = refl
  binary-back BinOp.BitXor = refl
  binary-back BinOp.Shl = refl
  binary-back BinOp.Shr = refl

  unary-back : (o : UnaryOp) → token_of M (tag_of (Token.Expression (ExprToken.Unary o))) (value_of (Token.Expression (ExprToken.Unary o))) ≡ some (Token.Expression (ExprToken.Unary o))
  unfolding token_of code_of
  unary-back UnaryOp.Not = refl
  unary-back UnaryOp.Neg = refl

  literal-back : (l : Literal) → ProperLiteral l → token_of M (tag_of (Token.Expression (ExprToken.Const l))) (value_of (Token.Expression (ExprToken.Const l))) ≡ some (Token.Expression (ExprToken.Const l))
  unfolding token_of code_of
  literal-back (Literal.Bool v) h = rw (lt-ltb v 2 h)
  literal-back (Literal.Int v) h = refl
  literal-back (Literal.Float v) h = refl
  literal-back (Literal.Char v) h = rw (lt-ltb v 256 h)

  expr-back : (e : ExprToken) → ProperExpr e → token_of M (tag_of (Token.Expression e)) (value_of (Token.Expression e)) ≡ some (Token.Expression e)
  unfolding token_of code_of
  expr-back (ExprToken.Const l) h = literal-back l h
  expr-back (ExprToken.Var x) h = rw (lt-ltb x M h)
  expr-back (ExprToken.Unary o) h = unary-back o
  expr-back (ExprToken.Binary o) h = binary-back o
  expr-back ExprToken.If h = refl
  expr-back ExprToken.Pre h = refl
  expr-back ExprToken.Arrow h = refl
  expr-back (ExprToken.Call x) h = rw (lt-ltb x M h)
  expr-back (ExprToken.Field x) h = rw (lt-ltb x M h)
  expr-back ExprToken.Index h = refl
  expr-back ExprToken.Tuple h = refl
  expr-back ExprToken.Array h = refl
  expr-back (ExprToken.Struct x) h = rw (lt-ltb x M h)
  expr-back ExprToken.Cast h = refl
  expr-back (ExprToken.When x) h = rw (lt-ltb x M h)
  expr-back (ExprToken.WhenNot x) h = rw (lt-ltb x M h)
  expr-back (ExprToken.Merge x) h = rw (lt-ltb x M h)
  expr-back (ExprToken.Map x) h = rw (lt-ltb x M h)
  expr-back (ExprToken.Fold x) h = rw (lt-ltb x M h)

  kind-back : (k : NodeKind) → token_of M (tag_of (Token.Kind k)) (value_of (Token.Kind k)) ≡ some (Token.Kind k)
  unfolding token_of code_of
  kind-back NodeKind.Function = refl
  kind-back NodeKind.Operator = refl
  kind-back NodeKind.Imported = refl

  pub code-back : (t : Token) → Proper t → token_of M (tag_of t) (value_of t) ≡ some t
  unfolding token_of code_of
  code-back (Token.Types n) h = refl
  code-back (Token.Nodes n) h = refl
  code-back (Token.Count n) h = refl
  code-back (Token.Name x) h = rw (lt-ltb x M h)
  code-back (Token.High w) h = refl
  code-back (Token.Definition d) h = definition-back d h
  code-back (Token.Type a) h = type-back a h
  code-back (Token.Node x) h = rw (lt-ltb x M h)
  code-back (Token.Kind k) h = kind-back k
  code-back (Token.Expression e) h = expr-back e h

-- a token's value is a word
pub value-word : (t : Token) → Proper words t → Word (value_of t)
unfolding code_of
value-word (Token.Types n) h = h
value-word (Token.Nodes n) h = h
value-word (Token.Count n) h = h
value-word (Token.Name x) h = h
value-word (Token.High w) h = h
value-word (Token.Definition (DefinitionToken.Enum x)) h = h
value-word (Token.Definition (DefinitionToken.Record x)) h = h
value-word (Token.Definition (DefinitionToken.Alias x)) h = h
value-word (Token.Type (TypeToken.Basic p)) h = omega arith
value-word (Token.Type (TypeToken.Array n)) h = h
value-word (Token.Type (TypeToken.Named x)) h = h
value-word (Token.Node x) h = h
value-word (Token.Kind NodeKind.Function) h = omega arith
value-word (Token.Kind NodeKind.Operator) h = omega arith
value-word (Token.Kind NodeKind.Imported) h = omega arith
value-word (Token.Expression (ExprToken.Const (Literal.Bool v))) h = omega arith
value-word (Token.Expression (ExprToken.Const (Literal.Int v))) h = h
value-word (Token.Expression (ExprToken.Const (Literal.Float v))) h = h
value-word (Token.Expression (ExprToken.Const (Literal.Char v))) h = omega arith
value-word (Token.Expression (ExprToken.Var x)) h = h
value-word (Token.Expression (ExprToken.Unary o)) h = go o
  where
    go : (o : UnaryOp) → Word (value_of (Token.Expression (ExprToken.Unary o)))
    go UnaryOp.Not = omega arith
    go UnaryOp.Neg = omega arith
value-word (Token.Expression (ExprToken.Binary o)) h = go o
  where
    go : (o : BinOp) → Word (value_of (Token.Expression (ExprToken.Binary o)))
    go BinOp.And = omega arith
    go BinOp.Or = omega arith
    go BinOp.Xor = omega arith
    go BinOp.Implies = omega arith
    go BinOp.Eq = omega arith
    go BinOp.Neq = omega arith
    go BinOp.Lt = omega arith
    go BinOp.Le = omega arith
    go BinOp.Gt = omega arith
    go BinOp.Ge = omega arith
    go BinOp.Add = omega arith
    go BinOp.Sub = omega arith
    go BinOp.Mul = omega arith
    go BinOp.Div = omega arith
    go BinOp.Mod = omega arith
    go BinOp.BitAnd = omega arith
    go BinOp.BitOr = omega arith
    go BinOp.BitXor = omega arith
    go BinOp.Shl = omega arith
    go BinOp.Shr = omega arith
value-word (Token.Expression ExprToken.If) h = omega arith
value-word (Token.Expression ExprToken.Pre) h = omega arith
value-word (Token.Expression ExprToken.Arrow) h = omega arith
value-word (Token.Expression (ExprToken.Call x)) h = h
value-word (Token.Expression (ExprToken.Field x)) h = h
value-word (Token.Expression ExprToken.Index) h = omega arith
value-word (Token.Expression ExprToken.Tuple) h = omega arith
value-word (Token.Expression ExprToken.Array) h = omega arith
value-word (Token.Expression (ExprToken.Struct x)) h = h
value-word (Token.Expression ExprToken.Cast) h = omega arith
value-word (Token.Expression (ExprToken.When x)) h = h
value-word (Token.Expression (ExprToken.WhenNot x)) h = h
value-word (Token.Expression (ExprToken.Merge x)) h = h
value-word (Token.Expression (ExprToken.Map x)) h = h
value-word (Token.Expression (ExprToken.Fold x)) h = h

-- tokens with the same tags and values are the same
pub codes-once : (a b : List Token) → All (Proper words) a → All (Proper words) b → map code_of a ≡ map code_of b → a ≡ b
codes-once [] [] h k e = refl
codes-once [] (y ∷ b) h k e = absurd cc
codes-once (x ∷ a) [] h k e = absurd cc
codes-once (x ∷ a) (y ∷ b) h k e =
    let p : code_of x ≡ code_of y = cc in
    let q : map code_of a ≡ map code_of b = cc in
    let r : some x ≡ some y = sym (code-back words x (all_head (Proper words) x a h)) ∙ (ap (λ (z : TagValue). token_of words z.tag z.value) p ∙ code-back words y (all_head (Proper words) y b k)) in
    ap₂ {C = List Token} (λ u v. u ∷ v) (some-injective x y r) (codes-once a b (all_tail (Proper words) x a h) (all_tail (Proper words) y b k) q)
