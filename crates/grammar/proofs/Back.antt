-- A token's tag and value give that token back, where its values are in range.
-- Assumes nothing.
use Prim.Native.Nat.{ℕ}
use mathlib.Core.Path.{◌≡◌, refl, ap, ◌∙◌}
use mathlib.Core.Bool.{Bool, true, false}
use mathlib.Core.Option.{some}
use Rattle.definitions.specs.declared.UnaryOp.{UnaryOp}
use Rattle.definitions.specs.declared.BinOp.{BinOp}
use Rattle.definitions.specs.declared.Primitive.{Primitive}
use Rattle.definitions.specs.declared.Literal.{Literal}
use Rattle.definitions.specs.declared.NodeKind.{NodeKind}
use Rattle.definitions.specs.declared.TypeToken.{TypeToken}
use Rattle.definitions.specs.declared.DefinitionToken.{DefinitionToken}
use Rattle.definitions.specs.declared.ExprToken.{ExprToken}
use Rattle.definitions.specs.declared.Token.{Token}
use Rattle.definitions.specs.Tokens.{given, mapped, unary_of, binary_of, primitive_of, kind_of, type_token_of, definition_token_of, expr_token_of, token_of}
use Rattle.definitions.specs.Tokens.{unary_value, binary_value, primitive_tag, kind_code, literal_code, type_code, definition_code, expr_code, code_of, tag_of, value_of}
use Rattle.grammar.specs.Range.{literal_fits, type_fits, definition_fits, expr_fits, fits}

-- what is made of something given is given under the same test
mapped-given : {A B : Type 0} (f : A → B) (b : Bool) (a : A) → mapped f (given b a) ≡ given b (f a)
mapped-given f true a = refl
mapped-given f false a = refl

pub unary-back : (o : UnaryOp) → unary_of (unary_value o) ≡ some o
unfolding unary_of unary_value
unary-back UnaryOp.Not = refl
unary-back UnaryOp.Neg = refl

pub binary-back : (o : BinOp) → binary_of (binary_value o) ≡ some o
unfolding binary_of binary_value
binary-back BinOp.And = refl
binary-back BinOp.Or = refl
binary-back BinOp.Xor = refl
binary-back BinOp.Implies = refl
binary-back BinOp.Eq = refl
binary-back BinOp.Neq = refl
binary-back BinOp.Lt = refl
binary-back BinOp.Le = refl
binary-back BinOp.Gt = refl
binary-back BinOp.Ge = refl
binary-back BinOp.Add = refl
binary-back BinOp.Sub = refl
binary-back BinOp.Mul = refl
binary-back BinOp.Div = refl
binary-back BinOp.Mod = refl
binary-back BinOp.BitAnd = refl
binary-back BinOp.BitOr = refl
binary-back BinOp.BitXor = refl
binary-back BinOp.Shl = refl
binary-back BinOp.Shr = refl

pub primitive-back : (M : ℕ) (p : Primitive) → type_token_of M (primitive_tag p) 0 ≡ some (TypeToken.Basic p)
unfolding type_token_of primitive_of primitive_tag
primitive-back M Primitive.Bool = refl
primitive-back M Primitive.Int8 = refl
primitive-back M Primitive.Int16 = refl
primitive-back M Primitive.Int32 = refl
primitive-back M Primitive.Int64 = refl
primitive-back M Primitive.Uint8 = refl
primitive-back M Primitive.Uint16 = refl
primitive-back M Primitive.Uint32 = refl
primitive-back M Primitive.Uint64 = refl
primitive-back M Primitive.Float32 = refl
primitive-back M Primitive.Float64 = refl
primitive-back M Primitive.Char = refl

pub kind-back : (k : NodeKind) → kind_of (kind_code k).value ≡ some k
unfolding kind_of kind_code
kind-back NodeKind.Function = refl
kind-back NodeKind.Operator = refl
kind-back NodeKind.Imported = refl

module _ (M : ℕ) where
  pub literal-back : (l : Literal) → expr_token_of M (literal_code l).tag (literal_code l).value ≡ given (literal_fits l) (ExprToken.Const l)
  unfolding expr_token_of literal_code
  literal-back (Literal.Bool v) = refl
  literal-back (Literal.Int v) = refl
  literal-back (Literal.Float v) = refl
  literal-back (Literal.Char v) = refl

  pub expr-back : (t : ExprToken) → expr_token_of M (expr_code t).tag (expr_code t).value ≡ given (expr_fits M t) t
  unfolding expr_token_of expr_code
  expr-back (ExprToken.Const l) = literal-back l
  expr-back (ExprToken.Var x) = refl
  expr-back (ExprToken.Unary o) = ap (mapped ExprToken.Unary) (unary-back o)
  expr-back (ExprToken.Binary o) = ap (mapped ExprToken.Binary) (binary-back o)
  expr-back ExprToken.If = refl
  expr-back ExprToken.Pre = refl
  expr-back ExprToken.Arrow = refl
  expr-back (ExprToken.Call x) = refl
  expr-back (ExprToken.Field x) = refl
  expr-back ExprToken.Index = refl
  expr-back ExprToken.Tuple = refl
  expr-back ExprToken.Array = refl
  expr-back (ExprToken.Struct x) = refl
  expr-back ExprToken.Cast = refl
  expr-back (ExprToken.When x) = refl
  expr-back (ExprToken.WhenNot x) = refl
  expr-back (ExprToken.Merge x) = refl
  expr-back (ExprToken.Map x) = refl
  expr-back (ExprToken.Fold x) = refl

  pub type-back : (t : TypeToken) → type_token_of M (type_code t).tag (type_code t).value ≡ given (type_fits M t) t
  unfolding type_token_of type_code
  type-back (TypeToken.Basic p) = primitive-back M p
  type-back (TypeToken.Array n) = refl
  type-back (TypeToken.Named x) = refl

  pub definition-back : (t : DefinitionToken) → definition_token_of M (definition_code t).tag (definition_code t).value ≡ given (definition_fits M t) t
  unfolding definition_token_of definition_code
  definition-back (DefinitionToken.Enum x) = refl
  definition-back (DefinitionToken.Record x) = refl
  definition-back (DefinitionToken.Alias x) = refl

  -- a first token's tag and value are no other token's
  as-expr : (t : ExprToken) → token_of M (expr_code t).tag (expr_code t).value ≡ mapped Token.Expression (expr_token_of M (expr_code t).tag (expr_code t).value)
  unfolding token_of expr_code literal_code
  as-expr (ExprToken.Const (Literal.Bool v)) = refl
  as-expr (ExprToken.Const (Literal.Int v)) = refl
  as-expr (ExprToken.Const (Literal.Float v)) = refl
  as-expr (ExprToken.Const (Literal.Char v)) = refl
  as-expr (ExprToken.Var x) = refl
  as-expr (ExprToken.Unary o) = refl
  as-expr (ExprToken.Binary o) = refl
  as-expr ExprToken.If = refl
  as-expr ExprToken.Pre = refl
  as-expr ExprToken.Arrow = refl
  as-expr (ExprToken.Call x) = refl
  as-expr (ExprToken.Field x) = refl
  as-expr ExprToken.Index = refl
  as-expr ExprToken.Tuple = refl
  as-expr ExprToken.Array = refl
  as-expr (ExprToken.Struct x) = refl
  as-expr ExprToken.Cast = refl
  as-expr (ExprToken.When x) = refl
  as-expr (ExprToken.WhenNot x) = refl
  as-expr (ExprToken.Merge x) = refl
  as-expr (ExprToken.Map x) = refl
  as-expr (ExprToken.Fold x) = refl

  as-type : (t : TypeToken) → token_of M (type_code t).tag (type_code t).value ≡ mapped Token.Type (type_token_of M (type_code t).tag (type_code t).value)
  unfolding token_of type_code primitive_tag
  as-type (TypeToken.Basic Primitive.Bool) = refl
  as-type (TypeToken.Basic Primitive.Int8) = refl
  as-type (TypeToken.Basic Primitive.Int16) = refl
  as-type (TypeToken.Basic Primitive.Int32) = refl
  as-type (TypeToken.Basic Primitive.Int64) = refl
  as-type (TypeToken.Basic Primitive.Uint8) = refl
  as-type (TypeToken.Basic Primitive.Uint16) = refl
  as-type (TypeToken.Basic Primitive.Uint32) = refl
  as-type (TypeToken.Basic Primitive.Uint64) = refl
  as-type (TypeToken.Basic Primitive.Float32) = refl
  as-type (TypeToken.Basic Primitive.Float64) = refl
  as-type (TypeToken.Basic Primitive.Char) = refl
  as-type (TypeToken.Array n) = refl
  as-type (TypeToken.Named x) = refl

  as-definition : (t : DefinitionToken) → token_of M (definition_code t).tag (definition_code t).value ≡ mapped Token.Definition (definition_token_of M (definition_code t).tag (definition_code t).value)
  unfolding token_of definition_code
  as-definition (DefinitionToken.Enum x) = refl
  as-definition (DefinitionToken.Record x) = refl
  as-definition (DefinitionToken.Alias x) = refl

  as-kind : (k : NodeKind) → token_of M (kind_code k).tag (kind_code k).value ≡ mapped Token.Kind (kind_of (kind_code k).value)
  unfolding token_of kind_code
  as-kind NodeKind.Function = refl
  as-kind NodeKind.Operator = refl
  as-kind NodeKind.Imported = refl

  -- a token's tag and value give the token back, if its values are in range, and else nothing
  pub token_back : (t : Token) → token_of M (tag_of t) (value_of t) ≡ given (fits M t) t
  unfolding token_of code_of
  token_back (Token.Types n) = refl
  token_back (Token.Nodes n) = refl
  token_back (Token.Count n) = refl
  token_back (Token.Name x) = refl
  token_back (Token.High w) = refl
  token_back (Token.Definition d) = as-definition d ∙ (ap (mapped Token.Definition) (definition-back d) ∙ mapped-given Token.Definition (definition_fits M d) d)
  token_back (Token.Type t) = as-type t ∙ (ap (mapped Token.Type) (type-back t) ∙ mapped-given Token.Type (type_fits M t) t)
  token_back (Token.Node x) = refl
  token_back (Token.Kind k) = as-kind k ∙ ap (mapped Token.Kind) (kind-back k)
  token_back (Token.Expression e) = as-expr e ∙ (ap (mapped Token.Expression) (expr-back e) ∙ mapped-given Token.Expression (expr_fits M e) e)

  pub token-again : (t : Token) → fits M t ≡ true → token_of M (tag_of t) (value_of t) ≡ some t
  token-again t h = token_back t ∙ ap (λ (b : Bool). given b t) h
