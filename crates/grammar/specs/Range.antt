-- The tokens whose values are in range: an id is below M, a Bool's constant 0 or 1, a Char's below 256.
use Rattle.std.specs.Prelude.{ℕ, Bool, true, ltb}
use Rattle.definitions.specs.declared.Literal.{Literal}
use Rattle.definitions.specs.declared.TypeToken.{TypeToken}
use Rattle.definitions.specs.declared.DefinitionToken.{DefinitionToken}
use Rattle.definitions.specs.declared.ExprToken.{ExprToken}
use Rattle.definitions.specs.declared.Token.{Token}

abbrev pub literal_fits : Literal → Bool
literal_fits (Literal.Bool v) = ltb v 2
literal_fits (Literal.Int v) = true
literal_fits (Literal.Float v) = true
literal_fits (Literal.Char v) = ltb v 256

-- M is the number of names
module _ (M : ℕ) where
  abbrev pub type_fits : TypeToken → Bool
  type_fits (TypeToken.Basic p) = true
  type_fits (TypeToken.Array n) = true
  type_fits (TypeToken.Named x) = ltb x M

  abbrev pub definition_fits : DefinitionToken → Bool
  definition_fits (DefinitionToken.Enum x) = ltb x M
  definition_fits (DefinitionToken.Record x) = ltb x M
  definition_fits (DefinitionToken.Alias x) = ltb x M

  abbrev pub expr_fits : ExprToken → Bool
  expr_fits (ExprToken.Const l) = literal_fits l
  expr_fits (ExprToken.Var x) = ltb x M
  expr_fits (ExprToken.Unary o) = true
  expr_fits (ExprToken.Binary o) = true
  expr_fits ExprToken.If = true
  expr_fits ExprToken.Pre = true
  expr_fits ExprToken.Arrow = true
  expr_fits (ExprToken.Call f) = ltb f M
  expr_fits (ExprToken.Field x) = ltb x M
  expr_fits ExprToken.Index = true
  expr_fits ExprToken.Tuple = true
  expr_fits ExprToken.Array = true
  expr_fits (ExprToken.Struct x) = ltb x M
  expr_fits ExprToken.Cast = true
  expr_fits (ExprToken.When x) = ltb x M
  expr_fits (ExprToken.WhenNot x) = ltb x M
  expr_fits (ExprToken.Merge x) = ltb x M
  expr_fits (ExprToken.Map f) = ltb f M
  expr_fits (ExprToken.Fold f) = ltb f M

  abbrev pub fits : Token → Bool
  fits (Token.Types n) = true
  fits (Token.Nodes n) = true
  fits (Token.Count n) = true
  fits (Token.Name x) = ltb x M
  fits (Token.High w) = true
  fits (Token.Definition d) = definition_fits d
  fits (Token.Type t) = type_fits t
  fits (Token.Node x) = ltb x M
  fits (Token.Kind k) = true
  fits (Token.Expression e) = expr_fits e
