-- What a token that was read says: how many parts follow it, and its mark: a when or a merge, or a name that passes a test.
-- Assumes nothing.
use mathlib.Core.Path.{◌≡◌, ◌∙◌, ap, subst}
use mathlib.Core.Option.{Option, some, none}
use mathlib.Core.Bool.{Bool}
use Prim.Native.Nat.{ℕ, ◌<◌}
use lib.Dec.{eqb, ltb}
use borrow.Author.Tests.{ltb-true}
use Rattle.definitions.specs.declared.Literal.{Literal}
use Rattle.definitions.specs.declared.Primitive.{Primitive}
use Rattle.definitions.specs.declared.TypeToken.{TypeToken}
use Rattle.definitions.specs.declared.ExprToken.{ExprToken}
use Rattle.definitions.specs.Tokens.{given, mapped, type_token_of, expr_token_of, unary_of, binary_of, primitive_of}
use Rattle.shapes.proofs.Decoded.{Maybe, pick, maybe-given, maybe-mapped}
use Rattle.layout.specs.Owed.{follows}
use Rattle.layout.specs.Marks.{Mark, named, sampling, mark_of}

-- the parts of a token that was read
abbrev pub of-literal : Literal → ℕ
of-literal (Literal.Bool v) = 0
of-literal (Literal.Int v) = 1
of-literal (Literal.Float v) = 1
of-literal (Literal.Char v) = 0

abbrev pub of-expr : ExprToken → ℕ
of-expr (ExprToken.Const l) = of-literal l
of-expr (ExprToken.Var x) = 0
of-expr (ExprToken.Unary o) = 1
of-expr (ExprToken.Binary o) = 2
of-expr ExprToken.If = 3
of-expr ExprToken.Pre = 1
of-expr ExprToken.Arrow = 2
of-expr (ExprToken.Call f) = 1
of-expr (ExprToken.Field x) = 1
of-expr ExprToken.Index = 2
of-expr ExprToken.Tuple = 1
of-expr ExprToken.Array = 1
of-expr (ExprToken.Struct x) = 1
of-expr ExprToken.Cast = 2
of-expr (ExprToken.When x) = 1
of-expr (ExprToken.WhenNot x) = 1
of-expr (ExprToken.Merge x) = 2
of-expr (ExprToken.Map f) = 2
of-expr (ExprToken.Fold f) = 2

abbrev pub of-type : TypeToken → ℕ
of-type (TypeToken.Basic b) = 0
of-type (TypeToken.Array n) = 1
of-type (TypeToken.Named x) = 0

-- the mark of a first token, by that of names
module _ (of : ℕ → Option Mark) where
  abbrev pub mark-of : ExprToken → Option Mark
  mark-of (ExprToken.Const l) = none
  mark-of (ExprToken.Var x) = of x
  mark-of (ExprToken.Unary o) = none
  mark-of (ExprToken.Binary o) = none
  mark-of ExprToken.If = none
  mark-of ExprToken.Pre = none
  mark-of ExprToken.Arrow = none
  mark-of (ExprToken.Call f) = none
  mark-of (ExprToken.Field x) = none
  mark-of ExprToken.Index = none
  mark-of ExprToken.Tuple = none
  mark-of ExprToken.Array = none
  mark-of (ExprToken.Struct x) = none
  mark-of ExprToken.Cast = none
  mark-of (ExprToken.When x) = some sampling
  mark-of (ExprToken.WhenNot x) = some sampling
  mark-of (ExprToken.Merge x) = some sampling
  mark-of (ExprToken.Map f) = none
  mark-of (ExprToken.Fold f) = none

-- every token that a decoder maps
mapped-all : {A B : Type 0} (Q : B → Type 0) (f : A → B) (o : Option A) → ((a : A) → Q (f a)) → Maybe Q (mapped f o)
mapped-all Q f none h = tt
mapped-all Q f (some a) h = h a

-- what a first token says; the marks agree on the names of the sheet
pub expr-tags : (test : ℕ → Bool) (of : ℕ → Option Mark) (M : ℕ) → ((x : ℕ) → x < M → given (test x) (named x) ≡ of x) → (tag v : ℕ) → Maybe (λ h. (follows tag v ≡ of-expr h) × (mark_of test tag v ≡ mark-of of h)) (expr_token_of M tag v)
unfolding expr_token_of follows mark_of
expr-tags test of M same tag v =
    let Q : ExprToken → Type 0 = λ h. (follows tag v ≡ of-expr h) × (mark_of test tag v ≡ mark-of of h) in
    let at : (k : ℕ) → tag ≡ k → (follows tag v ≡ follows k v) × (mark_of test tag v ≡ mark_of test k v) = λ k e. (ap (λ (t : ℕ). follows t v) e, ap (λ (t : ℕ). mark_of test t v) e) in
    pick Q tag 50 _ _ (λ e. maybe-given Q (ltb v 2) (ExprToken.Const (Literal.Bool v)) (λ l. at 50 e)) (
    pick Q tag 51 _ _ (λ e. at 51 e) (
    pick Q tag 52 _ _ (λ e. at 52 e) (
    pick Q tag 53 _ _ (λ e. maybe-given Q (ltb v 256) (ExprToken.Const (Literal.Char v)) (λ l. at 53 e)) (
    pick Q tag 54 _ _ (λ e. maybe-given Q (ltb v M) (ExprToken.Var v) (λ l. let a = at 54 e in (a.0, a.1 ∙ same v (ltb-true v M l)))) (
    pick Q tag 55 _ _ (λ e. mapped-all Q ExprToken.Unary (unary_of v) (λ o. at 55 e)) (
    pick Q tag 56 _ _ (λ e. mapped-all Q ExprToken.Binary (binary_of v) (λ o. at 56 e)) (
    pick Q tag 57 _ _ (λ e. maybe-given Q (eqb v 0) ExprToken.If (λ l. at 57 e)) (
    pick Q tag 58 _ _ (λ e. maybe-given Q (eqb v 0) ExprToken.Pre (λ l. at 58 e)) (
    pick Q tag 59 _ _ (λ e. maybe-given Q (eqb v 0) ExprToken.Arrow (λ l. at 59 e)) (
    pick Q tag 60 _ _ (λ e. maybe-given Q (ltb v M) (ExprToken.Call v) (λ l. at 60 e)) (
    pick Q tag 61 _ _ (λ e. maybe-given Q (ltb v M) (ExprToken.Field v) (λ l. at 61 e)) (
    pick Q tag 62 _ _ (λ e. maybe-given Q (eqb v 0) ExprToken.Index (λ l. at 62 e)) (
    pick Q tag 63 _ _ (λ e. maybe-given Q (eqb v 0) ExprToken.Tuple (λ l. at 63 e)) (
    pick Q tag 64 _ _ (λ e. maybe-given Q (eqb v 0) ExprToken.Array (λ l. at 64 e)) (
    pick Q tag 65 _ _ (λ e. maybe-given Q (ltb v M) (ExprToken.Struct v) (λ l. at 65 e)) (
    pick Q tag 66 _ _ (λ e. maybe-given Q (eqb v 0) ExprToken.Cast (λ l. at 66 e)) (
    pick Q tag 67 _ _ (λ e. maybe-given Q (ltb v M) (ExprToken.When v) (λ l. at 67 e)) (
    pick Q tag 68 _ _ (λ e. maybe-given Q (ltb v M) (ExprToken.WhenNot v) (λ l. at 68 e)) (
    pick Q tag 69 _ _ (λ e. maybe-given Q (ltb v M) (ExprToken.Merge v) (λ l. at 69 e)) (
    pick Q tag 70 _ _ (λ e. maybe-given Q (ltb v M) (ExprToken.Map v) (λ l. at 70 e)) (
    pick Q tag 71 _ _ (λ e. maybe-given Q (ltb v M) (ExprToken.Fold v) (λ l. at 71 e)) tt)))))))))))))))))))))

-- a primitive type's token has no parts
basic-tags : (test : ℕ → Bool) (tag v : ℕ) → Maybe (λ b. (follows tag v ≡ 0) × (mark_of test tag v ≡ none)) (primitive_of tag)
unfolding primitive_of follows mark_of
basic-tags test tag v =
    let Q : Primitive → Type 0 = λ b. (follows tag v ≡ 0) × (mark_of test tag v ≡ none) in
    let at : (k : ℕ) → tag ≡ k → (follows tag v ≡ follows k v) × (mark_of test tag v ≡ mark_of test k v) = λ k e. (ap (λ (t : ℕ). follows t v) e, ap (λ (t : ℕ). mark_of test t v) e) in
    pick Q tag 20 _ _ (at 20) (pick Q tag 21 _ _ (at 21) (pick Q tag 22 _ _ (at 22) (pick Q tag 23 _ _ (at 23) (pick Q tag 24 _ _ (at 24) (pick Q tag 25 _ _ (at 25) (
    pick Q tag 26 _ _ (at 26) (pick Q tag 27 _ _ (at 27) (pick Q tag 28 _ _ (at 28) (pick Q tag 29 _ _ (at 29) (pick Q tag 30 _ _ (at 30) (pick Q tag 31 _ _ (at 31) tt)))))))))))

pub type-tags : (test : ℕ → Bool) (M tag v : ℕ) → Maybe (λ h. (follows tag v ≡ of-type h) × (mark_of test tag v ≡ none)) (type_token_of M tag v)
unfolding type_token_of follows mark_of
type-tags test M tag v =
    let Q : TypeToken → Type 0 = λ h. (follows tag v ≡ of-type h) × (mark_of test tag v ≡ none) in
    let at : (k : ℕ) → tag ≡ k → (follows tag v ≡ follows k v) × (mark_of test tag v ≡ mark_of test k v) = λ k e. (ap (λ (t : ℕ). follows t v) e, ap (λ (t : ℕ). mark_of test t v) e) in
    pick Q tag 32 _ _ (at 32) (pick Q tag 33 _ _ (λ e. maybe-given Q (ltb v M) (TypeToken.Named v) (λ l. at 33 e)) (pick Q v 0 _ _ (λ z. maybe-mapped (λ b. (follows tag v ≡ 0) × (mark_of test tag v ≡ none)) Q TypeToken.Basic (primitive_of tag) (λ b e. e) (basic-tags test tag v)) tt))

-- what a decoder allowed
pub said : {A : Type 0} (Q : A → Type 0) (o : Option A) (a : A) → Maybe Q o → o ≡ some a → Q a
said Q o a m e = subst (Maybe Q) e m
