-- The tokens of a sheet: document 01, "Tags". The enums are those of lib.rt, which the code has too.
use Rattle.std.specs.Prelude.{ℕ, ◌^◌, Bool, true, false, ◌&&◌, ltb, eqb, Result, Ok, Err}
use Rattle.std.proofs.Math.Option.{Option, none, some}
use Rattle.std.proofs.Math.Dec.{leb}
use Rattle.definitions.specs.declared.UnaryOp.{UnaryOp}
use Rattle.definitions.specs.declared.BinOp.{BinOp}
use Rattle.definitions.specs.declared.Primitive.{Primitive}
use Rattle.definitions.specs.declared.Literal.{Literal}
use Rattle.definitions.specs.declared.NodeKind.{NodeKind}
use Rattle.definitions.specs.declared.TypeToken.{TypeToken}
use Rattle.definitions.specs.declared.DefinitionToken.{DefinitionToken}
use Rattle.definitions.specs.declared.ExprToken.{ExprToken}
use Rattle.definitions.specs.declared.Token.{Token}
use Rattle.definitions.specs.Lists.{choose}

-- "two parallel arrays: T tags .. and T values": a place of both
pub record TagValue : Type 0 where
  pub tag : ℕ
  pub value : ℕ

-- the values that four bytes have
abbrev pub words : ℕ
words = 2 ^ 32

-- what is given, where the test passes
abbrev pub given : {A : Type 0} → Bool → A → Option A
given true a = some a
given false a = none

-- what a conversion gives, where it gives something
abbrev pub converted : {A E : Type 0} → Result A E → Option A
converted (Ok a) = some a
converted (Err e) = none

-- "55 unary(0, 1)"
unfoldable pub unary_of : ℕ → Option UnaryOp
unary_of v = choose (eqb v 0) (some UnaryOp.Not) (choose (eqb v 1) (some UnaryOp.Neg) none)

-- "56 binary(0 to 19, the Rust's order)"
unfoldable pub binary_of : ℕ → Option BinOp
binary_of v =
    choose (eqb v 0) (some BinOp.And) (
    choose (eqb v 1) (some BinOp.Or) (
    choose (eqb v 2) (some BinOp.Xor) (
    choose (eqb v 3) (some BinOp.Implies) (
    choose (eqb v 4) (some BinOp.Eq) (
    choose (eqb v 5) (some BinOp.Neq) (
    choose (eqb v 6) (some BinOp.Lt) (
    choose (eqb v 7) (some BinOp.Le) (
    choose (eqb v 8) (some BinOp.Gt) (
    choose (eqb v 9) (some BinOp.Ge) (
    choose (eqb v 10) (some BinOp.Add) (
    choose (eqb v 11) (some BinOp.Sub) (
    choose (eqb v 12) (some BinOp.Mul) (
    choose (eqb v 13) (some BinOp.Div) (
    choose (eqb v 14) (some BinOp.Mod) (
    choose (eqb v 15) (some BinOp.BitAnd) (
    choose (eqb v 16) (some BinOp.BitOr) (
    choose (eqb v 17) (some BinOp.BitXor) (
    choose (eqb v 18) (some BinOp.Shl) (
    choose (eqb v 19) (some BinOp.Shr) none)))))))))))))))))))

-- "20 to 31 the types Bool to Char in the Rust's order"
unfoldable pub primitive_of : ℕ → Option Primitive
primitive_of tag =
    choose (eqb tag 20) (some Primitive.Bool) (
    choose (eqb tag 21) (some Primitive.Int8) (
    choose (eqb tag 22) (some Primitive.Int16) (
    choose (eqb tag 23) (some Primitive.Int32) (
    choose (eqb tag 24) (some Primitive.Int64) (
    choose (eqb tag 25) (some Primitive.Uint8) (
    choose (eqb tag 26) (some Primitive.Uint16) (
    choose (eqb tag 27) (some Primitive.Uint32) (
    choose (eqb tag 28) (some Primitive.Uint64) (
    choose (eqb tag 29) (some Primitive.Float32) (
    choose (eqb tag 30) (some Primitive.Float64) (
    choose (eqb tag 31) (some Primitive.Char) none)))))))))))

-- "41 kind(0 function, 1 operator, 2 imported)"
unfoldable pub kind_of : ℕ → Option NodeKind
kind_of v = choose (eqb v 0) (some NodeKind.Function) (choose (eqb v 1) (some NodeKind.Operator) (choose (eqb v 2) (some NodeKind.Imported) none))

-- what is made of an answer, where there is one
abbrev pub mapped : {A B : Type 0} → (A → B) → Option A → Option B
mapped f none = none
mapped f (some a) = some (f a)

-- M is the number of names: an id is below it; "a tag with no value in brackets has value 0"
module _ (M : ℕ) where
  -- a type's first token
  unfoldable pub type_token_of : ℕ → ℕ → Option TypeToken
  unfolding primitive_of
  type_token_of tag v =
      choose (eqb tag 32) (some (TypeToken.Array v)) (
      choose (eqb tag 33) (given (ltb v M) (TypeToken.Named v)) (
      choose (eqb v 0) (mapped TypeToken.Basic (primitive_of tag)) none))

  -- a definition's first token
  unfoldable pub definition_token_of : ℕ → ℕ → Option DefinitionToken
  definition_token_of tag v =
      choose (eqb tag 10) (given (ltb v M) (DefinitionToken.Enum v)) (
      choose (eqb tag 11) (given (ltb v M) (DefinitionToken.Record v)) (
      choose (eqb tag 12) (given (ltb v M) (DefinitionToken.Alias v)) none))

  -- an expression's first token
  unfoldable pub expr_token_of : ℕ → ℕ → Option ExprToken
  unfolding unary_of binary_of
  expr_token_of tag v =
      choose (eqb tag 50) (given (ltb v 2) (ExprToken.Const (Literal.Bool v))) (
      choose (eqb tag 51) (some (ExprToken.Const (Literal.Int v))) (
      choose (eqb tag 52) (some (ExprToken.Const (Literal.Float v))) (
      choose (eqb tag 53) (given (ltb v 256) (ExprToken.Const (Literal.Char v))) (
      choose (eqb tag 54) (given (ltb v M) (ExprToken.Var v)) (
      choose (eqb tag 55) (mapped ExprToken.Unary (unary_of v)) (
      choose (eqb tag 56) (mapped ExprToken.Binary (binary_of v)) (
      choose (eqb tag 57) (given (eqb v 0) ExprToken.If) (
      choose (eqb tag 58) (given (eqb v 0) ExprToken.Pre) (
      choose (eqb tag 59) (given (eqb v 0) ExprToken.Arrow) (
      choose (eqb tag 60) (given (ltb v M) (ExprToken.Call v)) (
      choose (eqb tag 61) (given (ltb v M) (ExprToken.Field v)) (
      choose (eqb tag 62) (given (eqb v 0) ExprToken.Index) (
      choose (eqb tag 63) (given (eqb v 0) ExprToken.Tuple) (
      choose (eqb tag 64) (given (eqb v 0) ExprToken.Array) (
      choose (eqb tag 65) (given (ltb v M) (ExprToken.Struct v)) (
      choose (eqb tag 66) (given (eqb v 0) ExprToken.Cast) (
      choose (eqb tag 67) (given (ltb v M) (ExprToken.When v)) (
      choose (eqb tag 68) (given (ltb v M) (ExprToken.WhenNot v)) (
      choose (eqb tag 69) (given (ltb v M) (ExprToken.Merge v)) (
      choose (eqb tag 70) (given (ltb v M) (ExprToken.Map v)) (
      choose (eqb tag 71) (given (ltb v M) (ExprToken.Fold v)) none)))))))))))))))))))))

  -- the token that a tag and a value are, if they are one
  unfoldable pub token_of : ℕ → ℕ → Option Token
  unfolding kind_of definition_token_of type_token_of expr_token_of
  token_of tag v =
      choose (eqb tag 1) (some (Token.Types v)) (
      choose (eqb tag 2) (some (Token.Nodes v)) (
      choose (eqb tag 3) (some (Token.Count v)) (
      choose (eqb tag 4) (given (ltb v M) (Token.Name v)) (
      choose (eqb tag 5) (some (Token.High v)) (
      choose (leb 10 tag && leb tag 12) (mapped Token.Definition (definition_token_of tag v)) (
      choose (leb 20 tag && leb tag 33) (mapped Token.Type (type_token_of tag v)) (
      choose (eqb tag 40) (given (ltb v M) (Token.Node v)) (
      choose (eqb tag 41) (mapped Token.Kind (kind_of v)) (
      choose (leb 50 tag && leb tag 71) (mapped Token.Expression (expr_token_of tag v)) none)))))))))

-- the value of an operator's token
unfoldable pub unary_value : UnaryOp → ℕ
unary_value UnaryOp.Not = 0
unary_value UnaryOp.Neg = 1

unfoldable pub binary_value : BinOp → ℕ
binary_value BinOp.And = 0
binary_value BinOp.Or = 1
binary_value BinOp.Xor = 2
binary_value BinOp.Implies = 3
binary_value BinOp.Eq = 4
binary_value BinOp.Neq = 5
binary_value BinOp.Lt = 6
binary_value BinOp.Le = 7
binary_value BinOp.Gt = 8
binary_value BinOp.Ge = 9
binary_value BinOp.Add = 10
binary_value BinOp.Sub = 11
binary_value BinOp.Mul = 12
binary_value BinOp.Div = 13
binary_value BinOp.Mod = 14
binary_value BinOp.BitAnd = 15
binary_value BinOp.BitOr = 16
binary_value BinOp.BitXor = 17
binary_value BinOp.Shl = 18
binary_value BinOp.Shr = 19

-- the tag of a primitive type
unfoldable pub primitive_tag : Primitive → ℕ
primitive_tag Primitive.Bool = 20
primitive_tag Primitive.Int8 = 21
primitive_tag Primitive.Int16 = 22
primitive_tag Primitive.Int32 = 23
primitive_tag Primitive.Int64 = 24
primitive_tag Primitive.Uint8 = 25
primitive_tag Primitive.Uint16 = 26
primitive_tag Primitive.Uint32 = 27
primitive_tag Primitive.Uint64 = 28
primitive_tag Primitive.Float32 = 29
primitive_tag Primitive.Float64 = 30
primitive_tag Primitive.Char = 31

-- a tag and a value
abbrev pub tag_value : ℕ → ℕ → TagValue
tag_value tag v = record { tag = tag; value = v }

-- the tag and the value of a kind, of a constant, of a first token
unfoldable pub kind_code : NodeKind → TagValue
kind_code NodeKind.Function = tag_value 41 0
kind_code NodeKind.Operator = tag_value 41 1
kind_code NodeKind.Imported = tag_value 41 2

unfoldable pub literal_code : Literal → TagValue
literal_code (Literal.Bool v) = tag_value 50 v
literal_code (Literal.Int v) = tag_value 51 v
literal_code (Literal.Float v) = tag_value 52 v
literal_code (Literal.Char v) = tag_value 53 v

unfoldable pub type_code : TypeToken → TagValue
unfolding primitive_tag
type_code (TypeToken.Basic p) = tag_value (primitive_tag p) 0
type_code (TypeToken.Array n) = tag_value 32 n
type_code (TypeToken.Named x) = tag_value 33 x

unfoldable pub definition_code : DefinitionToken → TagValue
definition_code (DefinitionToken.Enum x) = tag_value 10 x
definition_code (DefinitionToken.Record x) = tag_value 11 x
definition_code (DefinitionToken.Alias x) = tag_value 12 x

unfoldable pub expr_code : ExprToken → TagValue
unfolding literal_code unary_value binary_value
expr_code (ExprToken.Const l) = literal_code l
expr_code (ExprToken.Var x) = tag_value 54 x
expr_code (ExprToken.Unary o) = tag_value 55 (unary_value o)
expr_code (ExprToken.Binary o) = tag_value 56 (binary_value o)
expr_code ExprToken.If = tag_value 57 0
expr_code ExprToken.Pre = tag_value 58 0
expr_code ExprToken.Arrow = tag_value 59 0
expr_code (ExprToken.Call f) = tag_value 60 f
expr_code (ExprToken.Field x) = tag_value 61 x
expr_code ExprToken.Index = tag_value 62 0
expr_code ExprToken.Tuple = tag_value 63 0
expr_code ExprToken.Array = tag_value 64 0
expr_code (ExprToken.Struct x) = tag_value 65 x
expr_code ExprToken.Cast = tag_value 66 0
expr_code (ExprToken.When x) = tag_value 67 x
expr_code (ExprToken.WhenNot x) = tag_value 68 x
expr_code (ExprToken.Merge x) = tag_value 69 x
expr_code (ExprToken.Map f) = tag_value 70 f
expr_code (ExprToken.Fold f) = tag_value 71 f

-- a token's tag and value: the way back from `token_of`
unfoldable pub code_of : Token → TagValue
unfolding definition_code type_code kind_code expr_code
code_of (Token.Types n) = tag_value 1 n
code_of (Token.Nodes n) = tag_value 2 n
code_of (Token.Count n) = tag_value 3 n
code_of (Token.Name x) = tag_value 4 x
code_of (Token.High w) = tag_value 5 w
code_of (Token.Definition d) = definition_code d
code_of (Token.Type t) = type_code t
code_of (Token.Node x) = tag_value 40 x
code_of (Token.Kind k) = kind_code k
code_of (Token.Expression e) = expr_code e

-- its tag
abbrev pub tag_of : Token → ℕ
tag_of t = (code_of t).tag

-- its value
abbrev pub value_of : Token → ℕ
value_of t = (code_of t).value
