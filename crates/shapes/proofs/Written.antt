-- A sheet's tokens say which sheet it is: tokens are read back, with no limits, to what they were written from.
use mathlib.Core.Path.{◌≡◌, refl, sym, ap, ◌∙◌, subst}
use mathlib.Core.List.{List, [], ◌∷◌, ◌++◌, map, append_assoc, append-nil, Memᴰ}
use mathlib.Core.Option.{Option, none, some, some-injective}
use Prim.Native.Nat.{ℕ, zero, suc, ◌+◌, ◌≤◌}
use native.Mathlib.Omega.{arith}
use lib.ListN.{length}
use Rattle.definitions.specs.declared.Literal.{Literal}
use Rattle.definitions.specs.declared.NodeKind.{NodeKind}
use Rattle.definitions.specs.declared.TypeToken.{TypeToken}
use Rattle.definitions.specs.declared.DefinitionToken.{DefinitionToken}
use Rattle.definitions.specs.declared.ExprToken.{ExprToken}
use Rattle.definitions.specs.declared.Token.{Token}
use Rattle.definitions.specs.declared.Test.{Test}
use Rattle.definitions.specs.Lists.{join}
use Rattle.definitions.specs.Tokens.{words}
use Rattle.definitions.specs.Tree.{Ty, Declared, Body, TypeDef, Head, Expr, Exprs, Equation, Probe, Node, Sheet}
use Rattle.definitions.specs.Grammar.{append}
use Rattle.definitions.specs.Clock.{is_on, is_not}
use Rattle.definitions.specs.Output.{ty_tokens, name_tokens, declared_tokens, counted_tokens, field_tokens, iteration_tokens, expr_tokens, operand_tokens, definition_tokens, equation_tokens, probe_tokens, node_tokens, sheet_tokens}
use Rattle.shapes.proofs.Facts.{All}
use Rattle.shapes.specs.Shape.{ShapedLiteral, ShapedTy, ShapedDeclared, ShapedEquation, many, ShapedIteration, ShapedHead, Shaped, Shapeds, ShapedBody, ShapedNode, ShapedSheet}

-- a reading of the first tokens, with those that follow
abbrev Read : Type 0 → Type 0
Read A = List Token → Option (A × List Token)

infixl 20 ◌then◌
abbrev ◌then◌ : {A B : Type 0} → Option (A × List Token) → (A → Read B) → Option (B × List Token)
none then f = none
some r then f = f r.0 r.1

-- what f writes of a is read back
abbrev Back : {A : Type 0} → (A → List Token) → Read A → A → Type 0
Back {A} f read a = (r : List Token) → ◌≡◌ {A = Option (A × List Token)} (read (f a ++ r)) (some (a, r))

-- the number in a token
abbrev number_in : Token → ℕ
number_in (Token.Types n) = n
number_in (Token.Nodes n) = n
number_in (Token.Count n) = n
number_in (Token.Name x) = x
number_in (Token.High w) = w
number_in (Token.Definition d) = 0
number_in (Token.Type a) = 0
number_in (Token.Node x) = x
number_in (Token.Kind k) = 0
number_in (Token.Expression h) = 0

abbrev value : Read ℕ
value [] = none
value (a ∷ ts) = some (number_in a, ts)

-- n readings
abbrev times : {A : Type 0} → ℕ → Read A → Read (List A)
times zero read ts = some ([], ts)
times (suc n) read ts = read ts then λ a ts. times n read ts then λ l ts. some (a ∷ l, ts)

times-back : {A : Type 0} (f : A → List Token) (read : Read A) (l : List A) → All (Back f read) l → Back (λ l. join (map f l)) (times (length l) read) l
times-back f read [] h r = refl
times-back {A} f read (a ∷ l) h r = rw (append_assoc (f a) (join (map f l)) r, h a (Memᴰ.head refl) (join (map f l) ++ r), times-back f read l (λ b m. h b (Memᴰ.tail m)) r)

abbrev counted_by : {A : Type 0} → Read A → Read (List A)
counted_by read ts = value ts then λ n ts. times n read ts

counted_back : {A : Type 0} (f : A → List Token) (read : Read A) (l : List A) → All (Back f read) l → Back (counted_tokens f) (counted_by read) l
counted_back f read l h r = times-back f read l h r

-- the first token, if it is a type's, a definition's, a kind's, an expression's
abbrev type_in : Token → Option TypeToken
type_in (Token.Types n) = none
type_in (Token.Nodes n) = none
type_in (Token.Count n) = none
type_in (Token.Name x) = none
type_in (Token.High w) = none
type_in (Token.Definition d) = none
type_in (Token.Type a) = some a
type_in (Token.Node x) = none
type_in (Token.Kind k) = none
type_in (Token.Expression h) = none

abbrev definition_in : Token → Option DefinitionToken
definition_in (Token.Types n) = none
definition_in (Token.Nodes n) = none
definition_in (Token.Count n) = none
definition_in (Token.Name x) = none
definition_in (Token.High w) = none
definition_in (Token.Definition d) = some d
definition_in (Token.Type a) = none
definition_in (Token.Node x) = none
definition_in (Token.Kind k) = none
definition_in (Token.Expression h) = none

abbrev kind_in : Token → Option NodeKind
kind_in (Token.Types n) = none
kind_in (Token.Nodes n) = none
kind_in (Token.Count n) = none
kind_in (Token.Name x) = none
kind_in (Token.High w) = none
kind_in (Token.Definition d) = none
kind_in (Token.Type a) = none
kind_in (Token.Node x) = none
kind_in (Token.Kind k) = some k
kind_in (Token.Expression h) = none

abbrev expr_in : Token → Option ExprToken
expr_in (Token.Types n) = none
expr_in (Token.Nodes n) = none
expr_in (Token.Count n) = none
expr_in (Token.Name x) = none
expr_in (Token.High w) = none
expr_in (Token.Definition d) = none
expr_in (Token.Type a) = none
expr_in (Token.Node x) = none
expr_in (Token.Kind k) = none
expr_in (Token.Expression h) = some h

abbrev first : {A : Type 0} → (Token → Option A) → Read A
first f [] = none
first f (a ∷ ts) = elim (f a) [ none ↦ none | some x ↦ some (x, ts) ]

-- what follows a type's first token
abbrev typed_by : Read Ty → TypeToken → Read Ty
typed_by read (TypeToken.Basic p) ts = some (Ty.primitive p, ts)
typed_by read (TypeToken.Array n) ts = read ts then λ a ts. some (Ty.array n a, ts)
typed_by read (TypeToken.Named x) ts = some (Ty.named x, ts)

-- a type, at most so many arrays deep
read_ty : ℕ → Read Ty
read_ty zero ts = none
read_ty (suc d) ts = first type_in ts then typed_by (read_ty d)

abbrev depth_ty : Ty → ℕ
depth_ty (Ty.primitive p) = 1
depth_ty (Ty.array n a) = suc (depth_ty a)
depth_ty (Ty.named x) = 1

ty-back : (d : ℕ) (a : Ty) → ShapedTy words a → depth_ty a ≤ d → Back ty_tokens (read_ty d) a
unfolding read_ty ty_tokens
ty-back zero (Ty.primitive p) s l r = absurd (omega arith)
ty-back zero (Ty.array n a) s l r = absurd (omega arith)
ty-back zero (Ty.named x) s l r = absurd (omega arith)
ty-back (suc d) (Ty.primitive p) s l r = refl
ty-back (suc d) (Ty.array n a) s l r = rw (ty-back d a s.0 (omega arith) r)
ty-back (suc d) (Ty.named x) s l r = refl

-- a name with its type
abbrev read_declared : ℕ → Read Declared
read_declared d ts = value ts then λ x ts. read_ty d ts then λ a ts. some (record { name = x; type = a }, ts)

declared-back : (d : ℕ) (x : Declared) → ShapedTy words x.type → depth_ty x.type ≤ d → Back declared_tokens (read_declared d) x
unfolding expr_tokens node_tokens
declared-back d x s l r = rw (ty-back d x.type s l r)

-- expressions
abbrev exprs : ℕ → Read Expr → Read Exprs
exprs zero read ts = some (Exprs.end, ts)
exprs (suc n) read ts = read ts then λ e ts. exprs n read ts then λ es ts. some (Exprs.and e es, ts)

abbrev fields : ℕ → Read Expr → Read (List ℕ × Exprs)
fields zero read ts = some (([], Exprs.end), ts)
fields (suc n) read ts = value ts then λ f ts. read ts then λ e ts. fields n read ts then λ fs ts. some ((f ∷ fs.0, Exprs.and e fs.1), ts)

-- what follows an expression's first token, read and ty reading an operand and a type
module _ (ty : Read Ty) (read : Read Expr) where
  abbrev computed : Head → ℕ → Read Expr
  computed h n ts = exprs n read ts then λ es ts. some (Expr.op h es, ts)

  abbrev iterated : (ℕ → Head) → Read Expr
  iterated h ts = value ts then λ k ts. exprs k read ts then λ s ts. value ts then λ n ts. exprs n read ts then λ es ts. some (Expr.op (h k) (append s es), ts)

  abbrev read_literal : Literal → Read Expr
  read_literal (Literal.Bool v) ts = some (Expr.const (Literal.Bool v) 0, ts)
  read_literal (Literal.Int v) ts = value ts then λ w ts. some (Expr.const (Literal.Int v) w, ts)
  read_literal (Literal.Float v) ts = value ts then λ w ts. some (Expr.const (Literal.Float v) w, ts)
  read_literal (Literal.Char v) ts = some (Expr.const (Literal.Char v) 0, ts)

  reading : ExprToken → Read Expr
  reading (ExprToken.Const l) ts = read_literal l ts
  reading (ExprToken.Var x) ts = some (Expr.var x, ts)
  reading (ExprToken.Unary o) ts = computed (Head.unary o) 1 ts
  reading (ExprToken.Binary o) ts = computed (Head.binary o) 2 ts
  reading ExprToken.If ts = computed Head.if 3 ts
  reading ExprToken.Pre ts = read ts then λ e ts. some (Expr.pre e, ts)
  reading ExprToken.Arrow ts = read ts then λ e ts. read ts then λ f ts. some (Expr.arrow e f, ts)
  reading (ExprToken.Call v) ts = value ts then λ n ts. exprs n read ts then λ es ts. some (Expr.call v es, ts)
  reading (ExprToken.Field x) ts = computed (Head.field x) 1 ts
  reading ExprToken.Index ts = computed Head.index 2 ts
  reading ExprToken.Tuple ts = value ts then λ n ts. computed Head.tuple n ts
  reading ExprToken.Array ts = value ts then λ n ts. computed Head.array n ts
  reading (ExprToken.Struct x) ts = value ts then λ n ts. fields n read ts then λ fs ts. some (Expr.op (Head.struct x fs.0) fs.1, ts)
  reading ExprToken.Cast ts = ty ts then λ b ts. computed (Head.cast b) 1 ts
  reading (ExprToken.When x) ts = read ts then λ e ts. some (Expr.when (is_on x) e, ts)
  reading (ExprToken.WhenNot x) ts = read ts then λ e ts. some (Expr.when (is_not x) e, ts)
  reading (ExprToken.Merge x) ts = read ts then λ e ts. read ts then λ f ts. some (Expr.merge x e f, ts)
  reading (ExprToken.Map v) ts = iterated (Head.map v) ts
  reading (ExprToken.Fold v) ts = iterated (Head.fold v) ts

-- an expression, at most so deep
read_expr : ℕ → Read Expr
read_expr zero ts = none
read_expr (suc d) ts = first expr_in ts then reading (read_ty d) (read_expr d)

-- operands that are read back
abbrev Ready : Read Expr → Exprs → Type 0
Ready read Exprs.end = Unit {0}
Ready read (Exprs.and e es) = Back expr_tokens read e × Ready read es

pub many-operands : (es : Exprs) → length (operand_tokens es) ≡ many es
unfolding expr_tokens
many-operands Exprs.end = refl
many-operands (Exprs.and e es) = ap suc (many-operands es)

exprs-back : (read : Read Expr) (es : Exprs) → Ready read es → Back (λ es. join (operand_tokens es)) (exprs (many es) read) es
unfolding expr_tokens
exprs-back read Exprs.end h r = refl
exprs-back read (Exprs.and e es) h r = rw (append_assoc (expr_tokens e) (join (operand_tokens es)) r, h.0 (join (operand_tokens es) ++ r), exprs-back read es h.1 r)

-- so many operands
exprs-are : (read : Read Expr) (es : Exprs) → Ready read es → (n : ℕ) → many es ≡ n → (r : List Token) → ◌≡◌ {A = Option (Exprs × List Token)} (exprs n read (join (operand_tokens es) ++ r)) (some (es, r))
exprs-are read es h n e r = subst (λ (z : ℕ). ◌≡◌ {A = Option (Exprs × List Token)} (exprs z read (join (operand_tokens es) ++ r)) (some (es, r))) e (exprs-back read es h r)

fields_back : (read : Read Expr) (fs : List ℕ) (es : Exprs) → many es ≡ length fs → Ready read es → (r : List Token)
    → ◌≡◌ {A = Option ((List ℕ × Exprs) × List Token)} (fields (length (operand_tokens es)) read (field_tokens fs (operand_tokens es) ++ r)) (some ((fs, es), r))
unfolding expr_tokens field_tokens
fields_back read [] Exprs.end e h r = refl
fields_back read [] (Exprs.and x es) e h r = absurd (omega arith)
fields_back read (f ∷ fs) Exprs.end e h r = absurd (omega arith)
fields_back read (f ∷ fs) (Exprs.and x es) e h r = rw (append_assoc (expr_tokens x) (field_tokens fs (operand_tokens es)) r, h.0 (field_tokens fs (operand_tokens es) ++ r), fields_back read fs es (omega arith) h.1 r)

-- a form, its operands being read back
module _ (ty : Read Ty) (read : Read Expr) where
  abbrev BackBy : Expr → Type 0
  BackBy e = (r : List Token) → ◌≡◌ {A = Option (Expr × List Token)} (first expr_in (expr_tokens e ++ r) then reading ty read) (some (e, r))

  iteration-back : (h : ℕ → Head) (k : ℕ) (es : Exprs) → ShapedIteration k (many es) → Ready read es → (r : List Token)
      → ◌≡◌ {A = Option (Expr × List Token)} (value (iteration_tokens k (operand_tokens es) ++ r) then λ k ts. exprs k read ts then λ s ts. value ts then λ n ts. exprs n read ts then λ es ts. some (Expr.op (h k) (append s es), ts)) (some (Expr.op (h k) es, r))
  unfolding expr_tokens
  iteration-back h zero es s o r = rw (exprs-are read es o (length (operand_tokens es)) (sym (many-operands es)) r)
  iteration-back h (suc zero) Exprs.end s o r = absurd s
  iteration-back h (suc zero) (Exprs.and e es) s o r =
      rw (append-nil (expr_tokens e), append_assoc (expr_tokens e) (Token.Count (length (operand_tokens es)) ∷ join (operand_tokens es)) r, o.0 (Token.Count (length (operand_tokens es)) ∷ (join (operand_tokens es) ++ r)), exprs-are read es o.1 (length (operand_tokens es)) (sym (many-operands es)) r)
  iteration-back h (suc (suc k)) es s o r = absurd s

  head-back : (h : Head) (es : Exprs) → ShapedHead words h (many es) → ((a : Ty) → ShapedTy words a → h ≡ Head.cast a → Back ty_tokens ty a) → Ready read es → BackBy (Expr.op h es)
  unfolding reading expr_tokens
  head-back (Head.unary v) es s c o r = rw (exprs-are read es o 1 s r)
  head-back (Head.binary v) es s c o r = rw (exprs-are read es o 2 s r)
  head-back (Head.field v) es s c o r = rw (exprs-are read es o 1 s r)
  head-back Head.if es s c o r = rw (exprs-are read es o 3 s r)
  head-back Head.index es s c o r = rw (exprs-are read es o 2 s r)
  head-back Head.tuple es s c o r = rw (exprs-are read es o (length (operand_tokens es)) (sym (many-operands es)) r)
  head-back Head.array es s c o r = rw (exprs-are read es o (length (operand_tokens es)) (sym (many-operands es)) r)
  head-back (Head.struct v fs) es s c o r = rw (fields_back read fs es s o r)
  head-back (Head.cast a) es s c o r = rw (append_assoc (ty_tokens a) (join (operand_tokens es)) r, c a s.0 refl (join (operand_tokens es) ++ r), exprs-are read es o 1 s.1 r)
  head-back (Head.map v k) es s c o r = iteration-back (Head.map v) k es s o r
  head-back (Head.fold v k) es s c o r = iteration-back (Head.fold v) k es s o r

  literal-back : (l : Literal) (w : ℕ) → ShapedLiteral l w → BackBy (Expr.const l w)
  unfolding reading expr_tokens
  literal-back (Literal.Bool v) w s r = rw s.1
  literal-back (Literal.Int v) w s r = refl
  literal-back (Literal.Float v) w s r = refl
  literal-back (Literal.Char v) w s r = rw s.1

  when-back : (x : ℕ) (e : Expr) → Back expr_tokens read e → (u : Test) → BackBy (Expr.when (record { name = x; test = u }) e)
  unfolding reading expr_tokens
  when-back x e h Test.On r = rw (h r)
  when-back x e h Test.Not r = rw (h r)

-- how deep a form's type is
abbrev head_depth : Head → ℕ
head_depth (Head.cast a) = depth_ty a
head_depth (Head.unary v) = 0
head_depth (Head.binary v) = 0
head_depth (Head.field v) = 0
head_depth Head.if = 0
head_depth Head.index = 0
head_depth Head.tuple = 0
head_depth Head.array = 0
head_depth (Head.struct v fs) = 0
head_depth (Head.map v k) = 0
head_depth (Head.fold v k) = 0

-- how much there is to read
unfoldable mutual
  size : Expr → ℕ
  size (Expr.const l w) = 1
  size (Expr.var x) = 1
  size (Expr.op h es) = suc (head_depth h + sizes es)
  size (Expr.pre e) = suc (size e)
  size (Expr.arrow a b) = suc (size a + size b)
  size (Expr.call f es) = suc (sizes es)
  size (Expr.when k e) = suc (size e)
  size (Expr.merge x a b) = suc (size a + size b)

  sizes : Exprs → ℕ
  sizes Exprs.end = 0
  sizes (Exprs.and e es) = size e + sizes es

some_size : (e : Expr) → 1 ≤ size e
unfolding size
some_size (Expr.const l w) = omega arith
some_size (Expr.var x) = omega arith
some_size (Expr.op h es) = omega arith
some_size (Expr.pre e) = omega arith
some_size (Expr.arrow a b) = omega arith
some_size (Expr.call f es) = omega arith
some_size (Expr.when k e) = omega arith
some_size (Expr.merge x a b) = omega arith

cast-depth : (h : Head) (a : Ty) → h ≡ Head.cast a → depth_ty a ≡ head_depth h
cast-depth h a e = sym (ap head_depth e)

-- one level more, where d levels are read back
module _ (d : ℕ) (back : (e : Expr) → Shaped words e → size e ≤ d → Back expr_tokens (read_expr d) e) where
  ready : (es : Exprs) → Shapeds words es → sizes es ≤ d → Ready (read_expr d) es
  unfolding size Shaped
  ready Exprs.end s l = tt
  ready (Exprs.and e es) s l = (back e s.0 (omega arith), ready es s.1 (omega arith))

  level-back : (e : Expr) → Shaped words e → size e ≤ suc d → BackBy (read_ty d) (read_expr d) e
  unfolding size Shaped reading expr_tokens
  level-back (Expr.const m w) s l r = literal-back (read_ty d) (read_expr d) m w s r
  level-back (Expr.var x) s l r = refl
  level-back (Expr.op h es) s l r = head-back (read_ty d) (read_expr d) h es s.0 (λ a q z. let p = cast-depth h a z in ty-back d a q (omega arith)) (ready es s.1 (omega arith)) r
  level-back (Expr.pre e) s l r = rw (back e s (omega arith) r)
  level-back (Expr.arrow a b) s l r = rw (append_assoc (expr_tokens a) (expr_tokens b) r, back a s.0 (omega arith) (expr_tokens b ++ r), back b s.1 (omega arith) r)
  level-back (Expr.call f es) s l r = rw (exprs-are (read_expr d) es (ready es s.0 (omega arith)) (length (operand_tokens es)) (sym (many-operands es)) r)
  level-back (Expr.when k e) s l r = when-back (read_ty d) (read_expr d) k.name e (back e s.0 (omega arith)) k.test r
  level-back (Expr.merge x a b) s l r = rw (append_assoc (expr_tokens a) (expr_tokens b) r, back a s.0 (omega arith) (expr_tokens b ++ r), back b s.1 (omega arith) r)

expr-back : (d : ℕ) (e : Expr) → Shaped words e → size e ≤ d → Back expr_tokens (read_expr d) e
unfolding read_expr
expr-back zero e s l = let p = some_size e in absurd (omega arith)
expr-back (suc d) e s l = level-back d (expr-back d) e s l

-- equations
abbrev read_equation : ℕ → Read Equation
read_equation d ts = counted_by value ts then λ xs ts. read_expr d ts then λ e ts. some (record { left = xs; right = e }, ts)

names-back : (xs : List ℕ) (r : List Token) → ◌≡◌ {A = Option (List ℕ × List Token)} (times (length xs) value (name_tokens xs ++ r)) (some (xs, r))
names-back [] r = refl
names-back (x ∷ xs) r = rw (names-back xs r)

equation-back : (d : ℕ) (e : Equation) → Shaped words e.right → size e.right ≤ d → Back equation_tokens (read_equation d) e
unfolding equation_tokens
equation-back d e s l r = rw (append_assoc (name_tokens e.left) (expr_tokens e.right) r, names-back e.left (expr_tokens e.right ++ r), expr-back d e.right s l r)

-- probes
abbrev read_probe : Read Probe
read_probe ts = value ts then λ l ts. value ts then λ x ts. some (record { label = l; name = x }, ts)

-- nodes
abbrev read_node : ℕ → Read Node
read_node d ts =
    value ts then λ x ts. first kind_in ts then λ k ts.
    counted_by (read_declared d) ts then λ ins ts. counted_by (read_declared d) ts then λ outs ts. counted_by (read_declared d) ts then λ ls ts.
    counted_by (read_equation d) ts then λ es ts. counted_by read_probe ts then λ ps ts.
    some (record { name = x; kind = k; inputs = ins; outputs = outs; locals = ls; equations = es; probes = ps }, ts)

-- a bound on what there is to read in each item
abbrev sizes_of : {A : Type 0} → (A → ℕ) → List A → ℕ
sizes_of f [] = 0
sizes_of f (a ∷ l) = f a + sizes_of f l

size_in : {A : Type 0} (f : A → ℕ) (a : A) (l : List A) → Memᴰ a l → f a ≤ sizes_of f l
size_in f a l (Memᴰ.head {x = b} {xs = r} e) = let p : f a ≡ f b = ap f e in omega arith
size_in f a l (Memᴰ.tail {x = b} {xs = r} m) = let p = size_in f a r m in omega arith

abbrev types_size : List Declared → ℕ
types_size ds = sizes_of (λ d. depth_ty d.type) ds

abbrev node_size : Node → ℕ
node_size n = types_size n.inputs + types_size n.outputs + types_size n.locals + sizes_of (λ e. size e.right) n.equations

declareds-back : (d : ℕ) (ds : List Declared) → All (ShapedDeclared words) ds → types_size ds ≤ d → Back (counted_tokens declared_tokens) (counted_by (read_declared d)) ds
declareds-back d ds s l = counted_back declared_tokens (read_declared d) ds (λ x m. let p = size_in (λ d. depth_ty d.type) x ds m in declared-back d x (s x m).0 (omega arith))

equations-back : (d : ℕ) (es : List Equation) → All (ShapedEquation words) es → sizes_of (λ e. size e.right) es ≤ d → Back (counted_tokens equation_tokens) (counted_by (read_equation d)) es
equations-back d es s l = counted_back equation_tokens (read_equation d) es (λ e m. let p = size_in (λ e. size e.right) e es m in equation-back d e (s e m).0 (omega arith))

probes-back : (ps : List Probe) → Back (counted_tokens probe_tokens) (counted_by read_probe) ps
probes-back ps = counted_back probe_tokens read_probe ps (λ p m r. refl)

-- one part, then the rest
part-back : {A B : Type 0} (f : A → List Token) (read : Read A) (a : A) → Back f read a → (rest r : List Token) (k : A → Read B) (b : B)
    → ◌≡◌ {A = Option (B × List Token)} (k a (rest ++ r)) (some (b, r)) → ◌≡◌ {A = Option (B × List Token)} (read ((f a ++ rest) ++ r) then k) (some (b, r))
part-back {A} {B} f read a h rest r k b e =
    ap (λ (z : List Token). read z then k) (append_assoc (f a) rest r) ∙ (ap (λ (z : Option (A × List Token)). z then k) (h (rest ++ r)) ∙ e)

node-back : (d : ℕ) (n : Node) → ShapedNode words n → node_size n ≤ d → Back node_tokens (read_node d) n
unfolding node_tokens
node-back d n s l r =
    let ps : List Token = counted_tokens probe_tokens n.probes in
    let es : List Token = counted_tokens equation_tokens n.equations in
    let ls : List Token = counted_tokens declared_tokens n.locals in
    let os : List Token = counted_tokens declared_tokens n.outputs in
    part-back (counted_tokens declared_tokens) (counted_by (read_declared d)) n.inputs (declareds-back d n.inputs s.inputs (omega arith)) (os ++ (ls ++ (es ++ ps))) r _ n
    (part-back (counted_tokens declared_tokens) (counted_by (read_declared d)) n.outputs (declareds-back d n.outputs s.outputs (omega arith)) (ls ++ (es ++ ps)) r _ n
    (part-back (counted_tokens declared_tokens) (counted_by (read_declared d)) n.locals (declareds-back d n.locals s.locals (omega arith)) (es ++ ps) r _ n
    (part-back (counted_tokens equation_tokens) (counted_by (read_equation d)) n.equations (equations-back d n.equations s.equations (omega arith)) ps r _ n
    (ap (λ (z : Option (List Probe × List Token)). z then λ q ts. some (record { name = n.name; kind = n.kind; inputs = n.inputs; outputs = n.outputs; locals = n.locals; equations = n.equations; probes = q }, ts)) (probes-back n.probes r)))))

-- type definitions
abbrev defined_by : ℕ → DefinitionToken → Read TypeDef
defined_by d (DefinitionToken.Enum x) ts = counted_by value ts then λ vs ts. some (record { name = x; body = Body.enum vs }, ts)
defined_by d (DefinitionToken.Record x) ts = counted_by (read_declared d) ts then λ fs ts. some (record { name = x; body = Body.fields fs }, ts)
defined_by d (DefinitionToken.Alias x) ts = read_ty d ts then λ b ts. some (record { name = x; body = Body.alias b }, ts)

abbrev read_definition : ℕ → Read TypeDef
read_definition d ts = first definition_in ts then defined_by d

abbrev body_size : Body → ℕ
body_size (Body.enum vs) = 0
body_size (Body.fields fs) = types_size fs
body_size (Body.alias a) = depth_ty a

definition-back : (d : ℕ) (x : TypeDef) → ShapedBody words x.body → body_size x.body ≤ d → Back (λ x. definition_tokens x.name x.body) (read_definition d) x
unfolding definition_tokens
definition-back d x s l = go x.name x.body s l
  where
    go : (y : ℕ) (b : Body) → ShapedBody words b → body_size b ≤ d → Back (λ x. definition_tokens x.name x.body) (read_definition d) (record { name = y; body = b })
    go y (Body.enum vs) s l r = rw (names-back vs r)
    go y (Body.fields fs) s l r = ap (λ (z : Option (List Declared × List Token)). z then λ fs ts. some (record { name = y; body = Body.fields fs }, ts)) (declareds-back d fs s l r)
    go y (Body.alias a) s l r = rw (ty-back d a s l r)

-- the sheet
abbrev read_sheet : ℕ → Read Sheet
read_sheet d ts = counted_by (read_definition d) ts then λ tys ts. counted_by (read_node d) ts then λ ns ts. some (record { types = tys; nodes = ns }, ts)

abbrev sheet_size : Sheet → ℕ
sheet_size s = sizes_of (λ d. body_size d.body) s.types + sizes_of node_size s.nodes

sheet-back : (d : ℕ) (s : Sheet) → ShapedSheet s → sheet_size s ≤ d → Back sheet_tokens (read_sheet d) s
unfolding sheet_tokens
sheet-back d s h l r =
    let f : TypeDef → List Token = λ x. definition_tokens x.name x.body in
    let k : List TypeDef → Read Sheet = λ tys ts. counted_by (read_node d) ts then λ ns ts. some (record { types = tys; nodes = ns }, ts) in
    let rest : List Token = Token.Nodes (length s.nodes) ∷ join (map node_tokens s.nodes) in
    let a : ◌≡◌ {A = Option (List Node × List Token)} (times (length s.nodes) (read_node d) (join (map node_tokens s.nodes) ++ r)) (some (s.nodes, r))
    = times-back node_tokens (read_node d) s.nodes (λ n m. let p = size_in node_size n s.nodes m in node-back d n (h.nodes n m) (omega arith)) r in
    let b : ◌≡◌ {A = Option (Sheet × List Token)} (k s.types (rest ++ r)) (some (s, r)) = ap (λ (z : Option (List Node × List Token)). z then λ ns ts. some (record { types = s.types; nodes = ns }, ts)) a in
    part-back (λ l. join (map f l)) (times (length s.types) (read_definition d)) s.types
    (times-back f (read_definition d) s.types (λ x m. let p = size_in (λ d. body_size d.body) x s.types m in definition-back d x (h.types x m).0 (omega arith))) rest r k s b

-- two sheets with the same tokens are the same
pub tokens-once : (s s' : Sheet) → ShapedSheet s → ShapedSheet s' → sheet_tokens s ≡ sheet_tokens s' → s ≡ s'
tokens-once s s' h h' e =
    let d : ℕ = sheet_size s + sheet_size s' in
    let p : ◌≡◌ {A = Option (Sheet × List Token)} (some (s, [])) (some (s', [])) = sym (sheet-back d s h (omega arith) []) ∙ (ap (λ (z : List Token). read_sheet d (z ++ [])) e ∙ sheet-back d s' h' (omega arith) []) in
    ap {B = Sheet} (λ (z : Sheet × List Token). z.0) (some-injective (s, []) (s', []) p)
