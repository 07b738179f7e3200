-- What the decoders allow: a token whose code is the tag and value that were read, and whose numbers are proper.
use mathlib.Core.Path.{◌≡◌, refl, sym, ap, ap₂}
use mathlib.Core.Bool.{Bool, true, false}
use mathlib.Core.Option.{Option, none, some}
use Prim.Native.Nat.{ℕ, ◌<◌, ◌≤◌}
use native.Mathlib.Omega.{arith}
use lib.Dec.{eqb, ltb}
use Rattle.std.proofs.lemmas.Bool.{eqb-true, ltb-true}
use Rattle.definitions.specs.declared.UnaryOp.{UnaryOp}
use Rattle.definitions.specs.declared.BinOp.{BinOp}
use Rattle.definitions.specs.declared.Primitive.{Primitive}
use Rattle.definitions.specs.declared.Literal.{Literal}
use Rattle.definitions.specs.declared.NodeKind.{NodeKind}
use Rattle.definitions.specs.declared.TypeToken.{TypeToken}
use Rattle.definitions.specs.declared.DefinitionToken.{DefinitionToken}
use Rattle.definitions.specs.declared.ExprToken.{ExprToken}
use Rattle.definitions.specs.declared.Token.{Token}
use Rattle.definitions.specs.Lists.{choose}
use Rattle.definitions.specs.Tokens.{tag_value, given, mapped, unary_of, binary_of, primitive_of, kind_of, type_token_of, definition_token_of, expr_token_of, unary_value, binary_value, primitive_tag, code_of}
use Rattle.definitions.specs.Grammar.{value_at, kind_at}
use Rattle.shapes.proofs.Coded.{ProperType, ProperDefinition, ProperExpr}
use Rattle.shapes.specs.Shape.{Word}

-- P of what there is
abbrev pub Maybe : {A : Type 0} → (A → Type 0) → Option A → Type 0
Maybe P none = Unit {0}
Maybe P (some a) = P a

pub maybe-given : {A : Type 0} (P : A → Type 0) (b : Bool) (a : A) → (b ≡ true → P a) → Maybe P (given b a)
maybe-given P true a h = h refl
maybe-given P false a h = tt

pub maybe-mapped : {A B : Type 0} (P : A → Type 0) (Q : B → Type 0) (f : A → B) (o : Option A) → ((a : A) → P a → Q (f a)) → Maybe P o → Maybe Q (mapped f o)
maybe-mapped P Q f none h m = tt
maybe-mapped P Q f (some a) h m = h a m

-- a number that is k, or another
pub pick : {A : Type 0} (P : A → Type 0) (n k : ℕ) (a b : Option A) → (n ≡ k → Maybe P a) → Maybe P b → Maybe P (choose (eqb n k) a b)
pick P n k a b f g = go (eqb n k) refl
  where
    go : (u : Bool) → eqb n k ≡ u → Maybe P (choose u a b)
    go true e = f (eqb-true n k e)
    go false e = g

pub unary-decoded : (v : ℕ) → Maybe (λ o. unary_value o ≡ v) (unary_of v)
unfolding unary_of unary_value
unary-decoded v = let Q : UnaryOp → Type 0 = λ o. unary_value o ≡ v in pick Q v 0 _ _ sym (pick Q v 1 _ _ sym tt)

pub binary-decoded : (v : ℕ) → Maybe (λ o. binary_value o ≡ v) (binary_of v)
unfolding binary_of binary_value
binary-decoded v =
    let Q : BinOp → Type 0 = λ o. binary_value o ≡ v in
    pick Q v 0 _ _ sym (pick Q v 1 _ _ sym (pick Q v 2 _ _ sym (pick Q v 3 _ _ sym (pick Q v 4 _ _ sym (
    pick Q v 5 _ _ sym (pick Q v 6 _ _ sym (pick Q v 7 _ _ sym (pick Q v 8 _ _ sym (pick Q v 9 _ _ sym (
    pick Q v 10 _ _ sym (pick Q v 11 _ _ sym (pick Q v 12 _ _ sym (pick Q v 13 _ _ sym (pick Q v 14 _ _ sym (
    pick Q v 15 _ _ sym (pick Q v 16 _ _ sym (pick Q v 17 _ _ sym (pick Q v 18 _ _ sym (pick Q v 19 _ _ sym tt)))))))))))))))))))

pub primitive-decoded : (tag : ℕ) → Maybe (λ p. primitive_tag p ≡ tag) (primitive_of tag)
unfolding primitive_of primitive_tag
primitive-decoded tag =
    let Q : Primitive → Type 0 = λ p. primitive_tag p ≡ tag in
    pick Q tag 20 _ _ sym (pick Q tag 21 _ _ sym (pick Q tag 22 _ _ sym (pick Q tag 23 _ _ sym (pick Q tag 24 _ _ sym (pick Q tag 25 _ _ sym (
    pick Q tag 26 _ _ sym (pick Q tag 27 _ _ sym (pick Q tag 28 _ _ sym (pick Q tag 29 _ _ sym (pick Q tag 30 _ _ sym (pick Q tag 31 _ _ sym tt)))))))))))

-- a value behind this tag, below this bound
pub value-decoded : (wanted bound tag v : ℕ) → Maybe (λ n. (n < bound) × (tag_value wanted n ≡ tag_value tag v)) (value_at wanted bound tag v)
value-decoded wanted bound tag v =
    let Q : ℕ → Type 0 = λ n. (n < bound) × (tag_value wanted n ≡ tag_value tag v) in
    pick Q tag wanted _ _ (λ e. maybe-given Q (ltb v bound) v (λ l. (ltb-true v bound l, ap (λ (z : ℕ). tag_value z v) (sym e)))) tt

pub kind-decoded : (tag v : ℕ) → Maybe (λ k. code_of (Token.Kind k) ≡ tag_value tag v) (kind_at tag v)
unfolding kind_of code_of
kind-decoded tag v =
    let Q : NodeKind → Type 0 = λ k. code_of (Token.Kind k) ≡ tag_value tag v in
    pick Q tag 41 _ _ (λ e. pick Q v 0 _ _ (λ z. ap₂ tag_value (sym e) (sym z)) (pick Q v 1 _ _ (λ z. ap₂ tag_value (sym e) (sym z)) (pick Q v 2 _ _ (λ z. ap₂ tag_value (sym e) (sym z)) tt))) tt

-- the code of a token with this tag
module _ (tag v : ℕ) where
  pub coded : (k : ℕ) → tag ≡ k → tag_value k v ≡ tag_value tag v
  coded k e = ap (λ (z : ℕ). tag_value z v) (sym e)

  pub bare : (k : ℕ) → tag ≡ k → eqb v 0 ≡ true → tag_value k 0 ≡ tag_value tag v
  bare k e z = ap₂ tag_value (sym e) (sym (eqb-true v 0 z))

-- ids are below M, and so below N
module _ (M N : ℕ) (small : M ≤ N) (tag v : ℕ) (w : Word v) where
  below : ltb v M ≡ true → v < N
  below l = let p = ltb-true v M l in omega arith

  abbrev TypeFor : TypeToken → Type 0
  TypeFor a = ProperType N a × (code_of (Token.Type a) ≡ tag_value tag v)

  pub type-decoded : Maybe TypeFor (type_token_of M tag v)
  unfolding type_token_of code_of
  type-decoded =
      pick TypeFor tag 32 _ _ (λ e. (w, coded tag v 32 e))
      (pick TypeFor tag 33 _ _ (λ e. maybe-given TypeFor (ltb v M) (TypeToken.Named v) (λ l. (below l, coded tag v 33 e)))
      (pick TypeFor v 0 _ _ (λ z. maybe-mapped (λ p. primitive_tag p ≡ tag) TypeFor TypeToken.Basic (primitive_of tag) (λ p e. (tt, ap₂ tag_value e (sym z))) (primitive-decoded tag)) tt))

  abbrev DefinitionFor : DefinitionToken → Type 0
  DefinitionFor a = ProperDefinition N a × (code_of (Token.Definition a) ≡ tag_value tag v)

  pub definition-decoded : Maybe DefinitionFor (definition_token_of M tag v)
  unfolding definition_token_of code_of
  definition-decoded =
      pick DefinitionFor tag 10 _ _ (λ e. maybe-given DefinitionFor (ltb v M) (DefinitionToken.Enum v) (λ l. (below l, coded tag v 10 e)))
      (pick DefinitionFor tag 11 _ _ (λ e. maybe-given DefinitionFor (ltb v M) (DefinitionToken.Record v) (λ l. (below l, coded tag v 11 e)))
      (pick DefinitionFor tag 12 _ _ (λ e. maybe-given DefinitionFor (ltb v M) (DefinitionToken.Alias v) (λ l. (below l, coded tag v 12 e))) tt))

  abbrev ExprFor : ExprToken → Type 0
  ExprFor h = ProperExpr N h × (code_of (Token.Expression h) ≡ tag_value tag v)

  pub expr-decoded : Maybe ExprFor (expr_token_of M tag v)
  unfolding expr_token_of code_of
  expr-decoded =
      pick ExprFor tag 50 _ _ (λ e. maybe-given ExprFor (ltb v 2) (ExprToken.Const (Literal.Bool v)) (λ l. (ltb-true v 2 l, coded tag v 50 e)))
      (pick ExprFor tag 51 _ _ (λ e. (w, coded tag v 51 e))
      (pick ExprFor tag 52 _ _ (λ e. (w, coded tag v 52 e))
      (pick ExprFor tag 53 _ _ (λ e. maybe-given ExprFor (ltb v 256) (ExprToken.Const (Literal.Char v)) (λ l. (ltb-true v 256 l, coded tag v 53 e)))
      (pick ExprFor tag 54 _ _ (λ e. maybe-given ExprFor (ltb v M) (ExprToken.Var v) (λ l. (below l, coded tag v 54 e)))
      (pick ExprFor tag 55 _ _ (λ e. maybe-mapped (λ o. unary_value o ≡ v) ExprFor ExprToken.Unary (unary_of v) (λ o z. (tt, ap₂ tag_value (sym e) z)) (unary-decoded v))
      (pick ExprFor tag 56 _ _ (λ e. maybe-mapped (λ o. binary_value o ≡ v) ExprFor ExprToken.Binary (binary_of v) (λ o z. (tt, ap₂ tag_value (sym e) z)) (binary-decoded v))
      (pick ExprFor tag 57 _ _ (λ e. maybe-given ExprFor (eqb v 0) ExprToken.If (λ z. (tt, bare tag v 57 e z)))
      (pick ExprFor tag 58 _ _ (λ e. maybe-given ExprFor (eqb v 0) ExprToken.Pre (λ z. (tt, bare tag v 58 e z)))
      (pick ExprFor tag 59 _ _ (λ e. maybe-given ExprFor (eqb v 0) ExprToken.Arrow (λ z. (tt, bare tag v 59 e z)))
      (pick ExprFor tag 60 _ _ (λ e. maybe-given ExprFor (ltb v M) (ExprToken.Call v) (λ l. (below l, coded tag v 60 e)))
      (pick ExprFor tag 61 _ _ (λ e. maybe-given ExprFor (ltb v M) (ExprToken.Field v) (λ l. (below l, coded tag v 61 e)))
      (pick ExprFor tag 62 _ _ (λ e. maybe-given ExprFor (eqb v 0) ExprToken.Index (λ z. (tt, bare tag v 62 e z)))
      (pick ExprFor tag 63 _ _ (λ e. maybe-given ExprFor (eqb v 0) ExprToken.Tuple (λ z. (tt, bare tag v 63 e z)))
      (pick ExprFor tag 64 _ _ (λ e. maybe-given ExprFor (eqb v 0) ExprToken.Array (λ z. (tt, bare tag v 64 e z)))
      (pick ExprFor tag 65 _ _ (λ e. maybe-given ExprFor (ltb v M) (ExprToken.Struct v) (λ l. (below l, coded tag v 65 e)))
      (pick ExprFor tag 66 _ _ (λ e. maybe-given ExprFor (eqb v 0) ExprToken.Cast (λ z. (tt, bare tag v 66 e z)))
      (pick ExprFor tag 67 _ _ (λ e. maybe-given ExprFor (ltb v M) (ExprToken.When v) (λ l. (below l, coded tag v 67 e)))
      (pick ExprFor tag 68 _ _ (λ e. maybe-given ExprFor (ltb v M) (ExprToken.WhenNot v) (λ l. (below l, coded tag v 68 e)))
      (pick ExprFor tag 69 _ _ (λ e. maybe-given ExprFor (ltb v M) (ExprToken.Merge v) (λ l. (below l, coded tag v 69 e)))
      (pick ExprFor tag 70 _ _ (λ e. maybe-given ExprFor (ltb v M) (ExprToken.Map v) (λ l. (below l, coded tag v 70 e)))
      (pick ExprFor tag 71 _ _ (λ e. maybe-given ExprFor (ltb v M) (ExprToken.Fold v) (λ l. (below l, coded tag v 71 e))) tt)))))))))))))))))))))
