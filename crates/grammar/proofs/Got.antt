-- What follows from a reading that gave something: its parts were read too, and it is made of theirs.
-- Assumes nothing.
use Rattle.std.specs.Prelude.{Result, Ok, Err}
use mathlib.Core.Path.{◌≡◌, refl, sym, ◌∙◌, ap}
use mathlib.Core.List.{List, [], ◌∷◌}
use mathlib.Core.Bool.{Bool, true, false, ◌&&◌}
use mathlib.Core.Option.{Option, none, some}
use Prim.Native.Nat.{ℕ, zero, suc, ◌+◌, ◌-◌, ◌≤◌, ◌<◌}
use native.Mathlib.Omega.{arith}
use native.Mathlib.Numerals.{sub-one}
use lib.ListN.{length, get_or}
use lib.Dec.{leb, ltb, eqb}
use borrow.Author.Tests.{leb-true, ltb-true, eqb-true}
use Rattle.definitions.specs.declared.Refusal.{Refusal}
use Rattle.definitions.specs.declared.Primitive.{Primitive}
use Rattle.definitions.specs.declared.UnaryOp.{UnaryOp}
use Rattle.definitions.specs.declared.BinOp.{BinOp}
use Rattle.definitions.specs.declared.Literal.{Literal}
use Rattle.definitions.specs.declared.Test.{Test}
use Rattle.definitions.specs.declared.TypeToken.{TypeToken}
use Rattle.definitions.specs.declared.DefinitionToken.{DefinitionToken}
use Rattle.definitions.specs.declared.ExprToken.{ExprToken}
use Rattle.definitions.specs.Lists.{choose}
use Rattle.definitions.specs.Tokens.{TagValue, given, words, type_token_of, definition_token_of, expr_token_of}
use Rattle.definitions.specs.Tree.{Ty, Declared, Body, TypeDef, Head, Expr, Exprs, Equation, Node, Sheet}
use Rattle.definitions.specs.Reading.{Got, got, rejected, Reader, after, allowed, token, limited, times}
use Rattle.definitions.specs.Grammar.{value_at, tagged, counted, count, high, name, no_array, short_enough, typed, ty, append, exprs, fields, constant, form, expr, kind_at}
use Rattle.definitions.specs.Grammar.{declaration, declarations, definition, type_def, equation, probe, node, sheet}
use Rattle.definitions.specs.Bytes.{tokens}
use Rattle.grammar.specs.Outcome.{outcome}
use Rattle.grammar.proofs.Laws.{after-got, wrap-got, there}
use Rattle.grammar.proofs.Longer.{token-got}

-- what was read was not refused
pub no : {A : Type 0} (x : Got A) (a : A) (q : ℕ) (r : Result ℕ Refusal) (t : Refusal) → x ≡ got a q → r ≡ outcome x → r ≡ Err t → ⊥
no x a q r t g e b = let f : Ok q ≡ Err t = sym (e ∙ ap outcome g) ∙ b in cc

-- the place after what was read is the one that the code finds
pub same : {A : Type 0} (x : Got A) (a : A) (q : ℕ) (r : Result ℕ Refusal) (s : ℕ) → x ≡ got a q → r ≡ outcome x → r ≡ Ok s → q ≡ s
same x a q r s g e b = let f : Ok q ≡ Ok s = sym (e ∙ ap outcome g) ∙ b in cc

-- a test that was passed
pub limited-got : {A : Type 0} (test : A → Bool) (r : Reader A) (ts : List TagValue) (p : ℕ) (a : A) (q : ℕ) → limited test r ts p ≡ got a q → (r ts p ≡ got a q) × (test a ≡ true)
unfolding limited
limited-got test r ts p a q g = let m = after-got (r ts p) _ a q g in go m.0 m.1 (test m.0) refl m.2 m.3
  where
    go : (b : _) (s : ℕ) (t : Bool) → test b ≡ t → r ts p ≡ got b s → choose t (got b s) (rejected (Refusal.Limit p)) ≡ got a q → (r ts p ≡ got a q) × (test a ≡ true)
    go b s true x y e = let i : b ≡ a = cc in (y ∙ e, ap test (sym i) ∙ x)
    go b s false x y e = absurd cc

-- over the two arrays: what a token says of its tag and value
module _ (ts vs : List ℕ) (same_length : length vs ≡ length ts) (p : ℕ) where
  pub token-value : {A : Type 0} (f : ℕ → ℕ → Option A) (a : A) (q : ℕ) → p < length ts → token f (tokens ts vs) p ≡ got a q → (f (get_or ts p 0) (get_or vs p 0) ≡ some a) × (q ≡ p + 1)
  token-value f a q h g = go (f (get_or ts p 0) (get_or vs p 0)) (sym (there f ts vs p same_length h) ∙ g)
    where
      go : (x : Option _) → allowed x p ≡ got a q → (x ≡ some a) × (q ≡ p + 1)
      go none e = absurd cc
      go (some b) e = let i : b ≡ a = cc in (ap some i, cc)

  -- a value below a bound, under its tag
  pub tagged-value : (tag bound x q : ℕ) → p < length ts → tagged tag bound (tokens ts vs) p ≡ got x q → (x ≡ get_or vs p 0) × (get_or ts p 0 ≡ tag) × (x < bound) × (q ≡ p + 1)
  unfolding tagged
  tagged-value tag bound x q h g =
      let t = token-value (value_at tag bound) x q h g in
      go (eqb (get_or ts p 0) tag) (ltb (get_or vs p 0) bound) refl refl t.0 t.1
    where
      go : (a b : Bool) → eqb (get_or ts p 0) tag ≡ a → ltb (get_or vs p 0) bound ≡ b → choose a (given b (get_or vs p 0)) none ≡ some x → q ≡ p + 1 →
          (x ≡ get_or vs p 0) × (get_or ts p 0 ≡ tag) × (x < bound) × (q ≡ p + 1)
      go false b i j e k = absurd cc
      go true false i j e k = absurd cc
      go true true i j e k = let y : x ≡ get_or vs p 0 = cc in (y, eqb-true _ _ i, omega (arith, ltb-true (get_or vs p 0) bound j), k)

  pub counted-value : (tag low most n q : ℕ) → p < length ts → counted tag low most (tokens ts vs) p ≡ got n q → (n ≡ get_or vs p 0) × (get_or ts p 0 ≡ tag) × (q ≡ p + 1)
  unfolding counted
  counted-value tag low most n q h g =
      let l = limited-got (λ k. leb low k && leb k most) (tagged tag words) (tokens ts vs) p n q g in
      let t = tagged-value tag words n q h l.0 in
      (t.0, t.1, t.3)

-- lists of expressions, and of anything
module _ (R : Reader Expr) (ts : List TagValue) where
  pub exprs-cons : (k p : ℕ) (es : Exprs) (q : ℕ) → (k ≡ 0 → ⊥) → exprs k R ts p ≡ got es q →
      (e : Expr) × (s : ℕ) × (rest : Exprs) × (R ts p ≡ got e s) × (exprs (k - 1) R ts s ≡ got rest q) × (es ≡ Exprs.and e rest)
  unfolding exprs
  exprs-cons zero p es q z g = absurd (z refl)
  exprs-cons (suc k) p es q z g =
      let a = after-got (R ts p) _ es q g in
      let b = wrap-got (exprs k R ts a.1) _ es q a.3 in
      (a.0, a.1, b.0, a.2, rw (sub-one (suc k)) b.1, b.2)

module _ {A : Type 0} (R : Reader A) (ts : List TagValue) where
  pub times-nil : (k p : ℕ) (l : List A) (q : ℕ) → k ≡ 0 → times k R ts p ≡ got l q → (l ≡ []) × (q ≡ p)
  unfolding times
  times-nil k p l q z g = let f : got [] p ≡ got l q = rw z at g in (cc, cc)

  pub times-cons : (k p : ℕ) (l : List A) (q : ℕ) → (k ≡ 0 → ⊥) → times k R ts p ≡ got l q →
      (a : A) × (s : ℕ) × (rest : List A) × (R ts p ≡ got a s) × (times (k - 1) R ts s ≡ got rest q) × (l ≡ a ∷ rest)
  unfolding times
  times-cons zero p l q z g = absurd (z refl)
  times-cons (suc k) p l q z g =
      let a = after-got (R ts p) _ l q g in
      let b = wrap-got (times k R ts a.1) _ l q a.3 in
      (a.0, a.1, b.0, a.2, rw (sub-one (suc k)) b.1, b.2)

-- an expression has a first token, and what follows it was read
module _ (M : ℕ) (ts : List TagValue) (p : ℕ) where
  pub expr-got : (d : ℕ) (e : Expr) (q : ℕ) → expr M d ts p ≡ got e q →
      (h : ExprToken) × (d ≡ 0 → ⊥) × (token (expr_token_of M) ts p ≡ got h (p + 1)) × (form M h (expr M (d - 1)) ts (p + 1) ≡ got e q)
  unfolding expr
  expr-got zero e q g =
      let a = after-got (limited (λ h. false) (token (expr_token_of M)) ts p) _ e q g in
      let l = limited-got (λ h. false) (token (expr_token_of M)) ts p a.0 a.1 a.2 in
      absurd cc
  expr-got (suc d) e q g =
      let a = after-got (token (expr_token_of M) ts p) _ e q g in
      let t = token-got (expr_token_of M) ts p a.0 a.1 a.2 in
      (a.0, (λ z. omega arith), rw t.0 at a.2, rw (sub-one (suc d)) (rw t.0 at a.3))

-- the form of an expression, by its first token
module _ (M : ℕ) (R : Reader Expr) (ts : List TagValue) (p : ℕ) (e : Expr) (q : ℕ) where
  pub bool_got : (v : ℕ) → form M (ExprToken.Const (Literal.Bool v)) R ts p ≡ got e q → (e ≡ Expr.const (Literal.Bool v) 0) × (q ≡ p)
  unfolding form constant
  bool_got v g = (cc, cc)

  pub char-got : (v : ℕ) → form M (ExprToken.Const (Literal.Char v)) R ts p ≡ got e q → (e ≡ Expr.const (Literal.Char v) 0) × (q ≡ p)
  unfolding form constant
  char-got v g = (cc, cc)

  pub int_got : (v : ℕ) → form M (ExprToken.Const (Literal.Int v)) R ts p ≡ got e q → (w : ℕ) × (high ts p ≡ got w q) × (e ≡ Expr.const (Literal.Int v) w)
  unfolding form constant
  int_got v g = wrap-got (high ts p) _ e q g

  pub float_got : (v : ℕ) → form M (ExprToken.Const (Literal.Float v)) R ts p ≡ got e q → (w : ℕ) × (high ts p ≡ got w q) × (e ≡ Expr.const (Literal.Float v) w)
  unfolding form constant
  float_got v g = wrap-got (high ts p) _ e q g

  pub var-got : (x : ℕ) → form M (ExprToken.Var x) R ts p ≡ got e q → (e ≡ Expr.var x) × (q ≡ p)
  unfolding form
  var-got x g = (cc, cc)

  pub unary-got : (o : UnaryOp) → form M (ExprToken.Unary o) R ts p ≡ got e q → (es : Exprs) × (exprs 1 R ts p ≡ got es q) × (e ≡ Expr.op (Head.unary o) es)
  unfolding form
  unary-got o g = wrap-got (exprs 1 R ts p) _ e q g

  pub binary-got : (o : BinOp) → form M (ExprToken.Binary o) R ts p ≡ got e q → (es : Exprs) × (exprs 2 R ts p ≡ got es q) × (e ≡ Expr.op (Head.binary o) es)
  unfolding form
  binary-got o g = wrap-got (exprs 2 R ts p) _ e q g

  pub if-got : form M ExprToken.If R ts p ≡ got e q → (es : Exprs) × (exprs 3 R ts p ≡ got es q) × (e ≡ Expr.op Head.if es)
  unfolding form
  if-got g = wrap-got (exprs 3 R ts p) _ e q g

  pub field-got : (x : ℕ) → form M (ExprToken.Field x) R ts p ≡ got e q → (es : Exprs) × (exprs 1 R ts p ≡ got es q) × (e ≡ Expr.op (Head.field x) es)
  unfolding form
  field-got x g = wrap-got (exprs 1 R ts p) _ e q g

  pub index-got : form M ExprToken.Index R ts p ≡ got e q → (es : Exprs) × (exprs 2 R ts p ≡ got es q) × (e ≡ Expr.op Head.index es)
  unfolding form
  index-got g = wrap-got (exprs 2 R ts p) _ e q g

  pub pre-got : form M ExprToken.Pre R ts p ≡ got e q → (a : Expr) × (R ts p ≡ got a q) × (e ≡ Expr.pre a)
  unfolding form
  pre-got g = wrap-got (R ts p) _ e q g

  pub arrow-got : form M ExprToken.Arrow R ts p ≡ got e q → (a : Expr) × (s : ℕ) × (b : Expr) × (R ts p ≡ got a s) × (R ts s ≡ got b q) × (e ≡ Expr.arrow a b)
  unfolding form
  arrow-got g =
      let a = after-got (R ts p) _ e q g in
      let b = wrap-got (R ts a.1) _ e q a.3 in
      (a.0, a.1, b.0, a.2, b.1, b.2)

  pub when-got : (x : ℕ) → form M (ExprToken.When x) R ts p ≡ got e q → (a : Expr) × (R ts p ≡ got a q) × (e ≡ Expr.when (record { name = x; test = Test.On }) a)
  unfolding form
  when-got x g = wrap-got (R ts p) _ e q g

  pub when-not-got : (x : ℕ) → form M (ExprToken.WhenNot x) R ts p ≡ got e q → (a : Expr) × (R ts p ≡ got a q) × (e ≡ Expr.when (record { name = x; test = Test.Not }) a)
  unfolding form
  when-not-got x g = wrap-got (R ts p) _ e q g

  pub merge-got : (x : ℕ) → form M (ExprToken.Merge x) R ts p ≡ got e q → (a : Expr) × (s : ℕ) × (b : Expr) × (R ts p ≡ got a s) × (R ts s ≡ got b q) × (e ≡ Expr.merge x a b)
  unfolding form
  merge-got x g =
      let a = after-got (R ts p) _ e q g in
      let b = wrap-got (R ts a.1) _ e q a.3 in
      (a.0, a.1, b.0, a.2, b.1, b.2)

  -- a count and as many operands
  items : (H : Exprs → Expr) → after (count 64 ts p) (λ n s. after (exprs n R ts s) (λ es u. got (H es) u)) ≡ got e q →
      (n s : ℕ) × (es : Exprs) × (count 64 ts p ≡ got n s) × (exprs n R ts s ≡ got es q) × (e ≡ H es)
  items H g =
      let a = after-got (count 64 ts p) _ e q g in
      let b = wrap-got (exprs a.0 R ts a.1) H e q a.3 in
      (a.0, a.1, b.0, a.2, b.1, b.2)

  pub call-got : (f : ℕ) → form M (ExprToken.Call f) R ts p ≡ got e q → (n s : ℕ) × (es : Exprs) × (count 64 ts p ≡ got n s) × (exprs n R ts s ≡ got es q) × (e ≡ Expr.call f es)
  unfolding form
  call-got f g = items (Expr.call f) g

  pub tuple-got : form M ExprToken.Tuple R ts p ≡ got e q → (n s : ℕ) × (es : Exprs) × (count 64 ts p ≡ got n s) × (exprs n R ts s ≡ got es q) × (e ≡ Expr.op Head.tuple es)
  unfolding form
  tuple-got g = items (Expr.op Head.tuple) g

  pub array-got : form M ExprToken.Array R ts p ≡ got e q → (n s : ℕ) × (es : Exprs) × (count 64 ts p ≡ got n s) × (exprs n R ts s ≡ got es q) × (e ≡ Expr.op Head.array es)
  unfolding form
  array-got g = items (Expr.op Head.array) g

  pub struct-got : (x : ℕ) → form M (ExprToken.Struct x) R ts p ≡ got e q →
      (n s : ℕ) × (fs : List ℕ × Exprs) × (count 64 ts p ≡ got n s) × (fields M n R ts s ≡ got fs q) × (e ≡ Expr.op (Head.struct x fs.0) fs.1)
  unfolding form
  struct-got x g =
      let a = after-got (count 64 ts p) _ e q g in
      let b = wrap-got (fields M a.0 R ts a.1) _ e q a.3 in
      (a.0, a.1, b.0, a.2, b.1, b.2)

  pub cast-got : form M ExprToken.Cast R ts p ≡ got e q → (a : Ty) × (s : ℕ) × (es : Exprs) × (ty M 8 ts p ≡ got a s) × (exprs 1 R ts s ≡ got es q) × (e ≡ Expr.op (Head.cast a) es)
  unfolding form
  cast-got g =
      let a = after-got (ty M 8 ts p) _ e q g in
      let b = wrap-got (exprs 1 R ts a.1) _ e q a.3 in
      (a.0, a.1, b.0, a.2, b.1, b.2)

  -- a map or fold, whose head has the number of start values
  iterated : (H : ℕ → Head) →
      after (counted 3 0 1 ts p) (λ k s. after (exprs k R ts s) (λ a u. after (count 64 ts u) (λ n v. after (exprs n R ts v) (λ b w. got (Expr.op (H k) (append a b)) w)))) ≡ got e q →
      (k s : ℕ) × (a : Exprs) × (u n v : ℕ) × (b : Exprs) × (counted 3 0 1 ts p ≡ got k s) × (exprs k R ts s ≡ got a u) × (count 64 ts u ≡ got n v) × (exprs n R ts v ≡ got b q) × (e ≡ Expr.op (H k) (append a b))
  iterated H g =
      let k = after-got (counted 3 0 1 ts p) _ e q g in
      let a = after-got (exprs k.0 R ts k.1) _ e q k.3 in
      let n = after-got (count 64 ts a.1) _ e q a.3 in
      let b = wrap-got (exprs n.0 R ts n.1) _ e q n.3 in
      (k.0, k.1, a.0, a.1, n.0, n.1, b.0, k.2, a.2, n.2, b.1, b.2)

  pub map-got : (f : ℕ) → form M (ExprToken.Map f) R ts p ≡ got e q →
      (k s : ℕ) × (a : Exprs) × (u n v : ℕ) × (b : Exprs) × (counted 3 0 1 ts p ≡ got k s) × (exprs k R ts s ≡ got a u) × (count 64 ts u ≡ got n v) × (exprs n R ts v ≡ got b q) × (e ≡ Expr.op (Head.map f k) (append a b))
  unfolding form
  map-got f g = iterated (Head.map f) g

  pub fold-got : (f : ℕ) → form M (ExprToken.Fold f) R ts p ≡ got e q →
      (k s : ℕ) × (a : Exprs) × (u n v : ℕ) × (b : Exprs) × (counted 3 0 1 ts p ≡ got k s) × (exprs k R ts s ≡ got a u) × (count 64 ts u ≡ got n v) × (exprs n R ts v ≡ got b q) × (e ≡ Expr.op (Head.fold f k) (append a b))
  unfolding form
  fold-got f g = iterated (Head.fold f) g

-- a type, by its first token
module _ (M : ℕ) (ts : List TagValue) (p : ℕ) where
  -- where at most d arrays may stand in one another, this test is passed
  abbrev allows : ℕ → TypeToken → Bool
  allows zero h = no_array h
  allows (suc d) h = short_enough h

  abbrev element : ℕ → Reader Ty
  element zero = λ us s. rejected (Refusal.Limit s)
  element (suc d) = ty M d

  pub type-got : (d : ℕ) (a : Ty) (q : ℕ) → ty M d ts p ≡ got a q → (h : TypeToken) × (token (type_token_of M) ts p ≡ got h (p + 1)) × (allows d h ≡ true) × (typed h (element d) ts (p + 1) ≡ got a q)
  unfolding ty
  type-got zero a q g =
      let x = after-got (limited no_array (token (type_token_of M)) ts p) _ a q g in
      let l = limited-got no_array (token (type_token_of M)) ts p x.0 x.1 x.2 in
      let t = token-got (type_token_of M) ts p x.0 x.1 l.0 in
      (x.0, rw t.0 at l.0, l.1, rw t.0 at x.3)
  type-got (suc d) a q g =
      let x = after-got (limited short_enough (token (type_token_of M)) ts p) _ a q g in
      let l = limited-got short_enough (token (type_token_of M)) ts p x.0 x.1 x.2 in
      let t = token-got (type_token_of M) ts p x.0 x.1 l.0 in
      (x.0, rw t.0 at l.0, l.1, rw t.0 at x.3)

  pub primitive-got : (b : Primitive) (d : ℕ) (a : Ty) (q s : ℕ) → typed (TypeToken.Basic b) (element d) ts s ≡ got a q → (a ≡ Ty.primitive b) × (q ≡ s)
  primitive-got b d a q s g = (cc, cc)

  pub named-got : (x d : ℕ) (a : Ty) (q s : ℕ) → typed (TypeToken.Named x) (element d) ts s ≡ got a q → (a ≡ Ty.named x) × (q ≡ s)
  named-got x d a q s g = (cc, cc)

  pub element-got : (n d : ℕ) (a : Ty) (q s : ℕ) → typed (TypeToken.Array n) (element d) ts s ≡ got a q → allows d (TypeToken.Array n) ≡ true →
      (b : Ty) × (d ≡ 0 → ⊥) × (n ≤ 256) × (ty M (d - 1) ts s ≡ got b q) × (a ≡ Ty.array n b)
  element-got n zero a q s g t = absurd cc
  element-got n (suc d) a q s g t =
      let x = wrap-got (ty M d ts s) _ a q g in
      (x.0, (λ z. omega arith), leb-true n 256 t, rw (sub-one (suc d)) x.1, x.2)

  -- the parts of a node and of a sheet
  pub declaration-got : (d : Declared) (q : ℕ) → declaration M ts p ≡ got d q → (n s : ℕ) × (a : Ty) × (name M ts p ≡ got n s) × (ty M 8 ts s ≡ got a q) × (d ≡ record { name = n; type = a })
  unfolding declaration
  declaration-got d q g =
      let n = after-got (name M ts p) _ d q g in
      let a = wrap-got (ty M 8 ts n.1) _ d q n.3 in
      (n.0, n.1, a.0, n.2, a.1, a.2)

  pub declarations-got : (most : ℕ) (l : List Declared) (q : ℕ) → declarations M most ts p ≡ got l q → (n s : ℕ) × (count most ts p ≡ got n s) × (times n (declaration M) ts s ≡ got l q)
  unfolding declarations
  declarations-got most l q g = after-got (count most ts p) _ l q g

  pub equation-got : (e : Equation) (q : ℕ) → equation M ts p ≡ got e q →
      (n s : ℕ) × (l : List ℕ) × (u : ℕ) × (a : Expr) × (counted 3 1 8 ts p ≡ got n s) × (times n (name M) ts s ≡ got l u) × (expr M 32 ts u ≡ got a q) × (e ≡ record { left = l; right = a })
  unfolding equation
  equation-got e q g =
      let n = after-got (counted 3 1 8 ts p) _ e q g in
      let l = after-got (times n.0 (name M) ts n.1) _ e q n.3 in
      let a = wrap-got (expr M 32 ts l.1) _ e q l.3 in
      (n.0, n.1, l.0, l.1, a.0, n.2, l.2, a.1, a.2)

  pub definition-got : (t : TypeDef) (q : ℕ) → type_def M ts p ≡ got t q → (h : DefinitionToken) × (token (definition_token_of M) ts p ≡ got h (p + 1)) × (definition M h ts (p + 1) ≡ got t q)
  unfolding type_def
  definition-got t q g =
      let a = after-got (token (definition_token_of M) ts p) _ t q g in
      let k = token-got (definition_token_of M) ts p a.0 a.1 a.2 in
      (a.0, rw k.0 at a.2, rw k.0 at a.3)

  pub enum-got : (x : ℕ) (t : TypeDef) (q : ℕ) → definition M (DefinitionToken.Enum x) ts p ≡ got t q →
      (n s : ℕ) × (l : List ℕ) × (count 64 ts p ≡ got n s) × (times n (name M) ts s ≡ got l q) × (t ≡ record { name = x; body = Body.enum l })
  unfolding definition
  enum-got x t q g =
      let n = after-got (count 64 ts p) _ t q g in
      let l = wrap-got (times n.0 (name M) ts n.1) _ t q n.3 in
      (n.0, n.1, l.0, n.2, l.1, l.2)

  pub record-got : (x : ℕ) (t : TypeDef) (q : ℕ) → definition M (DefinitionToken.Record x) ts p ≡ got t q →
      (n s : ℕ) × (l : List Declared) × (count 64 ts p ≡ got n s) × (times n (declaration M) ts s ≡ got l q) × (t ≡ record { name = x; body = Body.fields l })
  unfolding definition
  record-got x t q g =
      let n = after-got (count 64 ts p) _ t q g in
      let l = wrap-got (times n.0 (declaration M) ts n.1) _ t q n.3 in
      (n.0, n.1, l.0, n.2, l.1, l.2)

  pub alias-got : (x : ℕ) (t : TypeDef) (q : ℕ) → definition M (DefinitionToken.Alias x) ts p ≡ got t q → (a : Ty) × (ty M 8 ts p ≡ got a q) × (t ≡ record { name = x; body = Body.alias a })
  unfolding definition
  alias-got x t q g = wrap-got (ty M 8 ts p) _ t q g

-- where the parts of a node stand
pub record NodeParts (M : ℕ) (ts : List TagValue) (p : ℕ) (x : Node) (q : ℕ) : Type 0 where
  pub kind_at' : ℕ
  pub inputs_at : ℕ
  pub outputs_at : ℕ
  pub locals_at : ℕ
  pub count_at : ℕ
  pub equation_count : ℕ
  pub equations_at : ℕ
  pub probe_count_at : ℕ
  pub probe_count : ℕ
  pub probes_at : ℕ
  pub named : tagged 40 M ts p ≡ got x.name kind_at'
  pub kinded : token kind_at ts kind_at' ≡ got x.kind inputs_at
  pub inputs : declarations M 128 ts inputs_at ≡ got x.inputs outputs_at
  pub outputs : declarations M (128 - length x.inputs) ts outputs_at ≡ got x.outputs locals_at
  pub locals : declarations M (128 - length x.inputs - length x.outputs) ts locals_at ≡ got x.locals count_at
  pub counted-equations : count 64 ts count_at ≡ got equation_count equations_at
  pub equations : times equation_count (equation M) ts equations_at ≡ got x.equations probe_count_at
  pub counted-probes : count 64 ts probe_count_at ≡ got probe_count probes_at
  pub probes : times probe_count (probe M) ts probes_at ≡ got x.probes q

pub node-got : (M : ℕ) (ts : List TagValue) (p : ℕ) (x : Node) (q : ℕ) → node M ts p ≡ got x q → NodeParts M ts p x q
unfolding node
node-got M ts p x q g =
    let n = after-got (tagged 40 M ts p) _ x q g in
    let k = after-got (token kind_at ts n.1) _ x q n.3 in
    let i = after-got (declarations M 128 ts k.1) _ x q k.3 in
    let o = after-got (declarations M (128 - length i.0) ts i.1) _ x q i.3 in
    let l = after-got (declarations M (128 - length i.0 - length o.0) ts o.1) _ x q o.3 in
    let e = after-got (count 64 ts l.1) _ x q l.3 in
    let es = after-got (times e.0 (equation M) ts e.1) _ x q e.3 in
    let b = after-got (count 64 ts es.1) _ x q es.3 in
    let ps = wrap-got (times b.0 (probe M) ts b.1) _ x q b.3 in
    rw ps.2 (record {
      kind_at' = n.1;
      inputs_at = k.1;
      outputs_at = i.1;
      locals_at = o.1;
      count_at = l.1;
      equation_count = e.0;
      equations_at = e.1;
      probe_count_at = es.1;
      probe_count = b.0;
      probes_at = b.1;
      named = n.2;
      kinded = k.2;
      inputs = i.2;
      outputs = o.2;
      locals = l.2;
      counted-equations = e.2;
      equations = es.2;
      counted-probes = b.2;
      probes = ps.1;
    })

-- a sheet's types and nodes, and its end
pub sheet-got : (M : ℕ) (ts : List TagValue) (p : ℕ) (x : Sheet) (q : ℕ) → sheet M ts p ≡ got x q →
    (n s u m v : ℕ) × (counted 1 0 32 ts p ≡ got n s) × (times n (type_def M) ts s ≡ got x.types u) × (counted 2 0 16 ts u ≡ got m v) × (times m (node M) ts v ≡ got x.nodes q) × (q ≡ length ts)
unfolding sheet
sheet-got M ts p x q g =
    let n = after-got (counted 1 0 32 ts p) _ x q g in
    let t = after-got (times n.0 (type_def M) ts n.1) _ x q n.3 in
    let m = after-got (counted 2 0 16 ts t.1) _ x q t.3 in
    let l = after-got (times m.0 (node M) ts m.1) _ x q m.3 in
    let z = go t.0 l.0 l.1 (eqb l.1 (length ts)) refl l.3 in
    (n.0, n.1, t.1, m.0, m.1, n.2, t.2 ∙ ap (λ (y : Sheet). got y.types t.1) z.0, m.2, l.2 ∙ rw z.1 (ap (λ (y : Sheet). got y.nodes q) z.0), z.2)
  where
    go : (types : List TypeDef) (nodes : List Node) (s : ℕ) (b : Bool) → eqb s (length ts) ≡ b → choose b (got (record { types = types; nodes = nodes }) s) (rejected (Refusal.Token s)) ≡ got x q →
        (record { types = types; nodes = nodes } ≡ x) × (s ≡ q) × (q ≡ length ts)
    go types nodes s false i e = absurd cc
    go types nodes s true i e = let y : s ≡ q = cc in (cc, y, omega (arith, eqb-true s (length ts) i))
