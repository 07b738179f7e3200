-- An expression with other tokens for its operands.
use Rattle.std.specs.Prelude.{List, [], ◌∷◌}
use Rattle.definitions.specs.declared.ExprToken.{ExprToken}
use Rattle.definitions.specs.declared.Token.{Token}
use Rattle.definitions.specs.Lists.{join}
use Rattle.definitions.specs.Tree.{Expr}
use Rattle.definitions.specs.Output.{e, literal_tokens, item_tokens, form_tokens, when_token}

-- the tokens of an expression, with these for its operands
unfoldable pub around : Expr → List (List Token) → List Token
unfolding form_tokens
around (Expr.const l w) ps = literal_tokens l w
around (Expr.var x) ps = e (ExprToken.Var x) ∷ []
around (Expr.op h es) ps = form_tokens h ps
around (Expr.pre a) ps = e ExprToken.Pre ∷ join ps
around (Expr.arrow a b) ps = e ExprToken.Arrow ∷ join ps
around (Expr.call f es) ps = e (ExprToken.Call f) ∷ item_tokens ps
around (Expr.when k a) ps = e (when_token k.test k.name) ∷ join ps
around (Expr.merge x a b) ps = e (ExprToken.Merge x) ∷ join ps
