-- The codes of tokens, one list after another; what a decoder allows has the tag and value that were read for its code, whatever the value.
-- Assumes nothing.
use mathlib.Core.Path.{◌≡◌, refl, sym, ◌∙◌, ap, ap₂}
use mathlib.Core.List.{List, [], ◌∷◌, ◌++◌, map}
use Prim.Native.Nat.{ℕ}
use lib.Dec.{eqb, ltb}
use Rattle.std.proofs.lemmas.List.{map-append}
use Rattle.definitions.specs.declared.Literal.{Literal}
use Rattle.definitions.specs.declared.TypeToken.{TypeToken}
use Rattle.definitions.specs.declared.ExprToken.{ExprToken}
use Rattle.definitions.specs.declared.Token.{Token}
use Rattle.definitions.specs.Lists.{join}
use Rattle.definitions.specs.Tokens.{TagValue, tag_value, unary_of, binary_of, primitive_of, type_token_of, expr_token_of, unary_value, binary_value, primitive_tag, code_of}
use Rattle.shapes.proofs.Decoded.{Maybe, pick, maybe-given, maybe-mapped, coded, bare, unary-decoded, binary-decoded, primitive-decoded}

-- the codes of tokens, one list after another
pub codes-join : (ps : List (List Token)) → map code_of (join ps) ≡ join (map (map code_of) ps)
codes-join [] = refl
codes-join (x ∷ ps) = map-append code_of x (join ps) ∙ ap (λ (z : List TagValue). map code_of x ++ z) (codes-join ps)

-- the tag and value of what is allowed; M is the number of names
module _ (M tag v : ℕ) where
  abbrev TypeFor : TypeToken → Type 0
  TypeFor t = code_of (Token.Type t) ≡ tag_value tag v

  pub type-decoded : Maybe TypeFor (type_token_of M tag v)
  unfolding type_token_of code_of
  type-decoded =
      pick TypeFor tag 32 _ _ (λ e. coded tag v 32 e)
      (pick TypeFor tag 33 _ _ (λ e. maybe-given TypeFor (ltb v M) (TypeToken.Named v) (λ l. coded tag v 33 e))
      (pick TypeFor v 0 _ _ (λ z. maybe-mapped (λ p. primitive_tag p ≡ tag) TypeFor TypeToken.Basic (primitive_of tag) (λ p e. ap₂ tag_value e (sym z)) (primitive-decoded tag)) tt))

  abbrev ExprFor : ExprToken → Type 0
  ExprFor t = code_of (Token.Expression t) ≡ tag_value tag v

  pub expr-decoded : Maybe ExprFor (expr_token_of M tag v)
  unfolding expr_token_of code_of
  expr-decoded =
      pick ExprFor tag 50 _ _ (λ e. maybe-given ExprFor (ltb v 2) (ExprToken.Const (Literal.Bool v)) (λ l. coded tag v 50 e))
      (pick ExprFor tag 51 _ _ (coded tag v 51)
      (pick ExprFor tag 52 _ _ (coded tag v 52)
      (pick ExprFor tag 53 _ _ (λ e. maybe-given ExprFor (ltb v 256) (ExprToken.Const (Literal.Char v)) (λ l. coded tag v 53 e))
      (pick ExprFor tag 54 _ _ (λ e. maybe-given ExprFor (ltb v M) (ExprToken.Var v) (λ l. coded tag v 54 e))
      (pick ExprFor tag 55 _ _ (λ e. maybe-mapped (λ o. unary_value o ≡ v) ExprFor ExprToken.Unary (unary_of v) (λ o z. ap₂ tag_value (sym e) z) (unary-decoded v))
      (pick ExprFor tag 56 _ _ (λ e. maybe-mapped (λ o. binary_value o ≡ v) ExprFor ExprToken.Binary (binary_of v) (λ o z. ap₂ tag_value (sym e) z) (binary-decoded v))
      (pick ExprFor tag 57 _ _ (λ e. maybe-given ExprFor (eqb v 0) ExprToken.If (bare tag v 57 e))
      (pick ExprFor tag 58 _ _ (λ e. maybe-given ExprFor (eqb v 0) ExprToken.Pre (bare tag v 58 e))
      (pick ExprFor tag 59 _ _ (λ e. maybe-given ExprFor (eqb v 0) ExprToken.Arrow (bare tag v 59 e))
      (pick ExprFor tag 60 _ _ (λ e. maybe-given ExprFor (ltb v M) (ExprToken.Call v) (λ l. coded tag v 60 e))
      (pick ExprFor tag 61 _ _ (λ e. maybe-given ExprFor (ltb v M) (ExprToken.Field v) (λ l. coded tag v 61 e))
      (pick ExprFor tag 62 _ _ (λ e. maybe-given ExprFor (eqb v 0) ExprToken.Index (bare tag v 62 e))
      (pick ExprFor tag 63 _ _ (λ e. maybe-given ExprFor (eqb v 0) ExprToken.Tuple (bare tag v 63 e))
      (pick ExprFor tag 64 _ _ (λ e. maybe-given ExprFor (eqb v 0) ExprToken.Array (bare tag v 64 e))
      (pick ExprFor tag 65 _ _ (λ e. maybe-given ExprFor (ltb v M) (ExprToken.Struct v) (λ l. coded tag v 65 e))
      (pick ExprFor tag 66 _ _ (λ e. maybe-given ExprFor (eqb v 0) ExprToken.Cast (bare tag v 66 e))
      (pick ExprFor tag 67 _ _ (λ e. maybe-given ExprFor (ltb v M) (ExprToken.When v) (λ l. coded tag v 67 e))
      (pick ExprFor tag 68 _ _ (λ e. maybe-given ExprFor (ltb v M) (ExprToken.WhenNot v) (λ l. coded tag v 68 e))
      (pick ExprFor tag 69 _ _ (λ e. maybe-given ExprFor (ltb v M) (ExprToken.Merge v) (λ l. coded tag v 69 e))
      (pick ExprFor tag 70 _ _ (λ e. maybe-given ExprFor (ltb v M) (ExprToken.Map v) (λ l. coded tag v 70 e))
      (pick ExprFor tag 71 _ _ (λ e. maybe-given ExprFor (ltb v M) (ExprToken.Fold v) (λ l. coded tag v 71 e)) tt)))))))))))))))))))))
