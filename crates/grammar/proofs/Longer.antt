-- A reading ends at or past where it begins, and within the sheet: what the calls that walk over tokens end by.
-- Assumes nothing.
use mathlib.Core.Path.{◌≡◌, refl}
use mathlib.Core.List.{List, [], ◌∷◌}
use mathlib.Core.Bool.{Bool, true, false, ◌&&◌}
use mathlib.Core.Option.{Option, none, some}
use Prim.Native.Nat.{ℕ, zero, suc, ◌+◌, ◌-◌, ◌≤◌, ◌<◌}
use native.Mathlib.Omega.{arith}
use lib.ListN.{length, get_elem?}
use lib.Dec.{leb}
use Rattle.definitions.specs.declared.Refusal.{Refusal}
use Rattle.definitions.specs.declared.Literal.{Literal}
use Rattle.definitions.specs.declared.TypeToken.{TypeToken}
use Rattle.definitions.specs.declared.DefinitionToken.{DefinitionToken}
use Rattle.definitions.specs.declared.ExprToken.{ExprToken}
use Rattle.definitions.specs.Lists.{choose}
use Rattle.definitions.specs.Tokens.{TagValue, expr_token_of, type_token_of, definition_token_of}
use Rattle.definitions.specs.Tree.{Ty, Head, Expr, Exprs}
use Rattle.definitions.specs.Reading.{got, rejected, Reader, ◌>>=◌, return, allowed, at_token, token, limited, times}
use Rattle.definitions.specs.Grammar.{tagged, counted, count, high, name, no_array, short_enough, typed, ty, exprs, fields, constant, iteration, form, expr, most_counted, deepest_type}
use Rattle.definitions.specs.Grammar.{declaration, definition, type_def, equation, probe}
use Rattle.grammar.proofs.Laws.{after-got}

-- it reads at least one token, and ends within the sheet
abbrev pub Grows : {A : Type 0} → Reader A → Type 0
Grows {A} r = (ts : List TagValue) (p : ℕ) (a : A) (q : ℕ) → r ts p ≡ got a q → (p < q) × (q ≤ length ts)

-- it does not go back, and ends within the sheet, or where it begins
abbrev pub Keeps : {A : Type 0} → Reader A → Type 0
Keeps {A} r = (ts : List TagValue) (p : ℕ) (a : A) (q : ℕ) → r ts p ≡ got a q → (p ≤ q) × (q ≤ p + (length ts - p))

pub keeps : {A : Type 0} (r : Reader A) → Grows r → Keeps r
keeps r h ts p a q g = let x = h ts p a q g in (omega arith, omega arith)

keeps-return : {A : Type 0} (a : A) → Keeps (return a)
keeps-return a ts p b q g = let e : p ≡ q = cc in (omega arith, omega arith)

-- the wrong tokens, at which nothing is read
keeps-rejected : {A : Type 0} (t : ℕ → Refusal) → Keeps {A = A} (λ ts p. rejected (t p))
keeps-rejected t ts p b q g = absurd cc

keeps_then : {A B : Type 0} (r : Reader A) (f : A → Reader B) → Keeps r → ((a : A) → Keeps (f a)) → Keeps (r >>= f)
keeps_then r f h k ts p b q g =
    let m = after-got (r ts p) _ b q g in
    let x = h ts p m.0 m.1 m.2 in
    let y = k m.0 ts m.1 b q m.3 in
    (omega arith, omega arith)

grows_then : {A B : Type 0} (r : Reader A) (f : A → Reader B) → Grows r → ((a : A) → Keeps (f a)) → Grows (r >>= f)
grows_then r f h k ts p b q g =
    let m = after-got (r ts p) _ b q g in
    let x = h ts p m.0 m.1 m.2 in
    let y = k m.0 ts m.1 b q m.3 in
    (omega arith, omega arith)

inside : {A : Type 0} (l : List A) (p : ℕ) (a : A) → get_elem? l p ≡ some a → p < length l
inside [] p a e = absurd cc
inside (b ∷ l) zero a e = omega arith
inside (b ∷ l) (suc p) a e = let h = inside l p a e in omega arith

-- a token that was read stands there, and the next place follows it
pub token-got : {A : Type 0} (f : ℕ → ℕ → Option A) (ts : List TagValue) (p : ℕ) (a : A) (q : ℕ) → token f ts p ≡ got a q → (q ≡ p + 1) × (p < length ts)
unfolding token
token-got f ts p a q g = go (get_elem? ts p) refl g
  where
    last : (x : Option _) → allowed x p ≡ got a q → q ≡ p + 1
    last none g = absurd cc
    last (some b) g = cc

    go : (t : Option TagValue) → get_elem? ts p ≡ t → at_token f t p ≡ got a q → (q ≡ p + 1) × (p < length ts)
    go none e g = absurd cc
    go (some t) e g = (last (f t.tag t.value) g, inside ts p t e)

pub token-grows : {A : Type 0} (f : ℕ → ℕ → Option A) → Grows (token f)
token-grows f ts p a q g = let x = token-got f ts p a q g in (omega arith, omega arith)

limited-grows : {A : Type 0} (test : A → Bool) (r : Reader A) → Grows r → Grows (limited test r)
unfolding limited
limited-grows test r h ts p a q g =
    let m = after-got (r ts p) _ a q g in
    go m.0 m.1 (test m.0) (h ts p m.0 m.1 m.2) m.3
  where
    go : (b : _) (s : ℕ) (t : Bool) → (p < s) × (s ≤ length ts) → choose t (got b s) (rejected (Refusal.Limit p)) ≡ got a q → (p < q) × (q ≤ length ts)
    go b s true x e = let i : s ≡ q = cc in (omega arith, omega arith)
    go b s false x e = absurd cc

pub tagged-grows : (tag bound : ℕ) → Grows (tagged tag bound)
unfolding tagged
tagged-grows tag bound = token-grows _

pub counted-grows : (tag low most : ℕ) → Grows (counted tag low most)
unfolding counted
counted-grows tag low most = limited-grows (λ n. leb low n && leb n most) (tagged tag _) (tagged-grows tag _)

pub count-grows : (most : ℕ) → Grows (count most)
unfolding count
count-grows most = counted-grows 3 0 most

pub high-grows : Grows high
unfolding high
high-grows = tagged-grows 5 _

pub name-grows : (M : ℕ) → Grows (name M)
unfolding name
name-grows M = tagged-grows 4 M

pub times-keeps : {A : Type 0} (r : Reader A) → Keeps r → (k : ℕ) → Keeps (times k r)
unfolding times
times-keeps r h zero = keeps-return []
times-keeps r h (suc k) = keeps_then r _ h (λ a. keeps_then (times k r) _ (times-keeps r h k) (λ rest. keeps-return (a ∷ rest)))

typed-keeps : (t : TypeToken) (r : Reader Ty) → Keeps r → Keeps (typed t r)
typed-keeps (TypeToken.Basic p) r h = keeps-return (Ty.primitive p)
typed-keeps (TypeToken.Array n) r h = keeps_then r _ h (λ e. keeps-return (Ty.array n e))
typed-keeps (TypeToken.Named x) r h = keeps-return (Ty.named x)

pub type-grows : (M d : ℕ) → Grows (ty M d)
unfolding ty
type-grows M zero = grows_then _ _ (limited-grows no_array _ (token-grows (type_token_of M))) (λ t. typed-keeps t _ (keeps-rejected Refusal.Limit))
type-grows M (suc d) = grows_then _ _ (limited-grows short_enough _ (token-grows (type_token_of M))) (λ t. typed-keeps t (ty M d) (keeps (ty M d) (type-grows M d)))

module _ (M : ℕ) (r : Reader Expr) (h : Keeps r) where
  pub exprs-keeps : (k : ℕ) → Keeps (exprs k r)
  unfolding exprs
  exprs-keeps zero = keeps-return Exprs.end
  exprs-keeps (suc k) = keeps_then r _ h (λ e. keeps_then (exprs k r) _ (exprs-keeps k) (λ es. keeps-return (Exprs.and e es)))

  pub fields-keeps : (k : ℕ) → Keeps (fields M k r)
  unfolding fields
  fields-keeps zero = keeps-return ([], Exprs.end)
  fields-keeps (suc k) = keeps_then (name M) _ (keeps (name M) (name-grows M)) (λ f. keeps_then r _ h (λ e. keeps_then (fields M k r) _ (fields-keeps k) (λ rest. keeps-return _)))

  constant-keeps : (l : Literal) → Keeps (constant M l)
  unfolding constant
  constant-keeps (Literal.Bool v) = keeps-return _
  constant-keeps (Literal.Int v) = keeps_then high _ (keeps high high-grows) (λ w. keeps-return _)
  constant-keeps (Literal.Float v) = keeps_then high _ (keeps high high-grows) (λ w. keeps-return _)
  constant-keeps (Literal.Char v) = keeps-return _

  computed-keeps : (H : Exprs → Expr) (k : ℕ) → Keeps (exprs k r >>= λ es. return (H es))
  computed-keeps H k = keeps_then (exprs k r) _ (exprs-keeps k) (λ es. keeps-return (H es))

  items-keeps : (H : Exprs → Expr) → Keeps (count most_counted >>= λ n. exprs n r >>= λ es. return (H es))
  items-keeps H = keeps_then (count most_counted) _ (keeps _ (count-grows most_counted)) (λ n. computed-keeps H n)

  iteration-keeps : (H : ℕ → Head) → Keeps (iteration M H r)
  iteration-keeps H = keeps_then (counted 3 0 1) _ (keeps _ (counted-grows 3 0 1)) (λ k. keeps_then (exprs k r) _ (exprs-keeps k) (λ s. items-keeps _))

  one-keeps : (H : Expr → Expr) → Keeps (r >>= λ a. return (H a))
  one-keeps H = keeps_then r _ h (λ a. keeps-return (H a))

  two-keeps : (H : Expr → Expr → Expr) → Keeps (r >>= λ a. r >>= λ b. return (H a b))
  two-keeps H = keeps_then r _ h (λ a. one-keeps (H a))

  pub form-keeps : (t : ExprToken) → Keeps (form M t r)
  unfolding form
  form-keeps (ExprToken.Const l) = constant-keeps l
  form-keeps (ExprToken.Var x) = keeps-return _
  form-keeps (ExprToken.Unary o) = computed-keeps _ 1
  form-keeps (ExprToken.Binary o) = computed-keeps _ 2
  form-keeps ExprToken.If = computed-keeps _ 3
  form-keeps ExprToken.Pre = one-keeps _
  form-keeps ExprToken.Arrow = two-keeps _
  form-keeps (ExprToken.Call f) = items-keeps _
  form-keeps (ExprToken.Field x) = computed-keeps _ 1
  form-keeps ExprToken.Index = computed-keeps _ 2
  form-keeps ExprToken.Tuple = items-keeps _
  form-keeps ExprToken.Array = items-keeps _
  form-keeps (ExprToken.Struct x) = keeps_then (count most_counted) _ (keeps _ (count-grows most_counted)) (λ n. keeps_then (fields M n r) _ (fields-keeps n) (λ fs. keeps-return _))
  form-keeps ExprToken.Cast = keeps_then (ty M deepest_type) _ (keeps _ (type-grows M deepest_type)) (λ a. computed-keeps _ 1)
  form-keeps (ExprToken.When x) = one-keeps _
  form-keeps (ExprToken.WhenNot x) = one-keeps _
  form-keeps (ExprToken.Merge x) = two-keeps _
  form-keeps (ExprToken.Map f) = iteration-keeps _
  form-keeps (ExprToken.Fold f) = iteration-keeps _

-- an expression that was read has a token, and ends within the sheet
pub expr-grows : (M d : ℕ) → Grows (expr M d)
unfolding expr
expr-grows M zero = grows_then _ _ (limited-grows (λ h. false) _ (token-grows (expr_token_of M))) (λ t. form-keeps M _ (keeps-rejected Refusal.Limit) t)
expr-grows M (suc d) = grows_then _ _ (token-grows (expr_token_of M)) (λ t. form-keeps M (expr M d) (keeps (expr M d) (expr-grows M d)) t)

-- the parts of a node and of a sheet
module _ (M : ℕ) where
  pub declaration-grows : Grows (declaration M)
  unfolding declaration
  declaration-grows = grows_then (name M) _ (name-grows M) (λ n. keeps_then (ty M 8) _ (keeps _ (type-grows M 8)) (λ a. keeps-return _))

  pub probe-grows : Grows (probe M)
  unfolding probe
  probe-grows = grows_then (name M) _ (name-grows M) (λ l. keeps_then (name M) _ (keeps _ (name-grows M)) (λ n. keeps-return _))

  pub equation-grows : Grows (equation M)
  unfolding equation
  equation-grows =
      grows_then (counted 3 1 8) _ (counted-grows 3 1 8) (λ n. keeps_then (times n (name M)) _ (times-keeps (name M) (keeps _ (name-grows M)) n) (λ l.
      keeps_then (expr M 32) _ (keeps _ (expr-grows M 32)) (λ e. keeps-return _)))

  definition-keeps : (t : DefinitionToken) → Keeps (definition M t)
  unfolding definition
  definition-keeps (DefinitionToken.Enum x) =
      keeps_then (count 64) _ (keeps _ (count-grows 64)) (λ n. keeps_then (times n (name M)) _ (times-keeps (name M) (keeps _ (name-grows M)) n) (λ l. keeps-return _))
  definition-keeps (DefinitionToken.Record x) =
      keeps_then (count 64) _ (keeps _ (count-grows 64)) (λ n. keeps_then (times n (declaration M)) _ (times-keeps (declaration M) (keeps _ declaration-grows) n) (λ l. keeps-return _))
  definition-keeps (DefinitionToken.Alias x) = keeps_then (ty M 8) _ (keeps _ (type-grows M 8)) (λ a. keeps-return _)

  pub definition-grows : Grows (type_def M)
  unfolding type_def
  definition-grows = grows_then (token (definition_token_of M)) _ (token-grows (definition_token_of M)) definition-keeps
