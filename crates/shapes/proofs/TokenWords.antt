-- The tokens of a shaped sheet have the values that the format gives them, if they are fewer than 2 ^ 32.
use mathlib.Core.Path.{◌≡◌, refl, ap, subst⁻¹}
use mathlib.Core.List.Memᴰ
use mathlib.Core.List.{List, [], ◌∷◌, ◌++◌, map, Memᴰ}
use Prim.Native.Nat.{ℕ, zero, suc, ◌≤◌}
use native.Mathlib.Omega.{arith}
use lib.ListN.{length, length-append}
use Rattle.definitions.specs.declared.Literal.{Literal}
use Rattle.definitions.specs.declared.TypeToken.{TypeToken}
use Rattle.definitions.specs.declared.DefinitionToken.{DefinitionToken}
use Rattle.definitions.specs.declared.ExprToken.{ExprToken}
use Rattle.definitions.specs.declared.Token.{Token}
use Rattle.definitions.specs.declared.Test.{Test}
use Rattle.definitions.specs.Lists.{join}
use Rattle.definitions.specs.Tokens.{words}
use Rattle.definitions.specs.Tree.{Ty, Declared, Body, TypeDef, Head, Expr, Exprs, Equation, Node, Sheet}
use Rattle.definitions.specs.Output.{literal_tokens, ty_tokens, name_tokens, declared_tokens, counted_tokens, field_tokens, iteration_tokens, form_tokens, when_token, expr_tokens, operand_tokens, definition_tokens, equation_tokens, probe_tokens, node_tokens, sheet_tokens}
use Rattle.shapes.proofs.Facts.{All, all_nil, all_cons, all_app}
use Rattle.shapes.proofs.Coded.{Proper}
use Rattle.shapes.specs.Shape.{Word, ShapedLiteral, ShapedTy, ShapedDeclared, many, ShapedIteration, ShapedHead, NamedHead, Shaped, Shapeds, ShapedEquation, ShapedBody, ShapedNode, ShapedSheet}

-- tokens that are proper
abbrev pub ProperTokens : List Token → Type 0
ProperTokens ts = All (Proper words) ts

-- fewer than words of them
abbrev Few : List Token → Type 0
Few ts = Word (length ts)

nil-words : ProperTokens []
nil-words = all_nil (Proper words)

cons-words : (k : Token) (ts : List Token) → Proper words k → ProperTokens ts → ProperTokens (k ∷ ts)
cons-words k ts w h = all_cons (Proper words) k ts w h

few-left : (a b : List Token) → Few (a ++ b) → Few a
few-left a b h = let p = length-append a b in omega arith

few-right : (a b : List Token) → Few (a ++ b) → Few b
few-right a b h = let p = length-append a b in omega arith

few-tail : (k : Token) (ts : List Token) → Few (k ∷ ts) → Few ts
few-tail k ts h = omega arith

-- both parts of what is few
app-words : (a b : List Token) → Few (a ++ b) → (Few a → ProperTokens a) → (Few b → ProperTokens b) → ProperTokens (a ++ b)
app-words a b h f g = all_app (Proper words) a b (f (few-left a b h)) (g (few-right a b h))

-- items that each have a token are at most as many as their tokens
joined_length : (ps : List (List Token)) → All (λ p. 1 ≤ length p) ps → length ps ≤ length (join ps)
joined_length [] h = omega arith
joined_length (p ∷ ps) h =
    let a = h p (Memᴰ.head refl) in
    let b = joined_length ps (λ x m. h x (Memᴰ.tail m)) in
    let c = length-append p (join ps) in
    omega arith

-- items behind their count
module _ {A : Type 0} (f : A → List Token) (one : (a : A) → 1 ≤ length (f a)) where
  items-length : (l : List A) → length l ≤ length (join (map f l))
  items-length [] = omega arith
  items-length (a ∷ l) =
      let p = one a in
      let q = items-length l in
      let r = length-append (f a) (join (map f l)) in
      omega arith

  items-words : (l : List A) → All (λ a. Few (f a) → ProperTokens (f a)) l → Few (join (map f l)) → ProperTokens (join (map f l))
  items-words [] h w = nil-words
  items-words (a ∷ l) h w = app-words (f a) (join (map f l)) w (h a (Memᴰ.head refl)) (items-words l (λ b m. h b (Memᴰ.tail m)))

  counted_words : (l : List A) → All (λ a. Few (f a) → ProperTokens (f a)) l → Few (counted_tokens f l) → ProperTokens (counted_tokens f l)
  counted_words l h w = let p = items-length l in cons-words (Token.Count (length l)) (join (map f l)) (omega arith) (items-words l h (few-tail (Token.Count (length l)) (join (map f l)) w))

names-words : (xs : List ℕ) → All Word xs → ProperTokens (name_tokens xs)
names-words [] h = nil-words
names-words (x ∷ xs) h = cons-words (Token.Name x) (name_tokens xs) (h x (Memᴰ.head refl)) (names-words xs (λ y m. h y (Memᴰ.tail m)))

length-names : (xs : List ℕ) → length (name_tokens xs) ≡ length xs
length-names [] = refl
length-names (x ∷ xs) = ap suc (length-names xs)

ty-words : (a : Ty) → ShapedTy words a → ProperTokens (ty_tokens a)
unfolding ty_tokens
ty-words (Ty.primitive p) s = cons-words (Token.Type (TypeToken.Basic p)) [] tt nil-words
ty-words (Ty.array n a) s = cons-words (Token.Type (TypeToken.Array n)) (ty_tokens a) s.1 (ty-words a s.0)
ty-words (Ty.named x) s = cons-words (Token.Type (TypeToken.Named x)) [] s nil-words

declared-words : (d : Declared) → ShapedDeclared words d → ProperTokens (declared_tokens d)
unfolding node_tokens
declared-words d s = cons-words (Token.Name d.name) (ty_tokens d.type) s.1 (ty-words d.type s.0)

declared-one : (d : Declared) → 1 ≤ length (declared_tokens d)
unfolding node_tokens
declared-one d = omega arith

-- expressions
expr-one : (e : Expr) → 1 ≤ length (expr_tokens e)
unfolding expr_tokens
expr-one (Expr.const (Literal.Bool v) w) = omega arith
expr-one (Expr.const (Literal.Int v) w) = omega arith
expr-one (Expr.const (Literal.Float v) w) = omega arith
expr-one (Expr.const (Literal.Char v) w) = omega arith
expr-one (Expr.var x) = omega arith
expr-one (Expr.op (Head.unary v) es) = omega arith
expr-one (Expr.op (Head.binary v) es) = omega arith
expr-one (Expr.op (Head.field v) es) = omega arith
expr-one (Expr.op Head.if es) = omega arith
expr-one (Expr.op Head.index es) = omega arith
expr-one (Expr.op Head.tuple es) = omega arith
expr-one (Expr.op Head.array es) = omega arith
expr-one (Expr.op (Head.struct v fs) es) = omega arith
expr-one (Expr.op (Head.cast a) es) = omega arith
expr-one (Expr.op (Head.map v k) es) = omega arith
expr-one (Expr.op (Head.fold v k) es) = omega arith
expr-one (Expr.pre e) = omega arith
expr-one (Expr.arrow a b) = omega arith
expr-one (Expr.call f es) = omega arith
expr-one (Expr.when k e) = omega arith
expr-one (Expr.merge x a b) = omega arith

operands-one : (es : Exprs) → All (λ p. 1 ≤ length p) (operand_tokens es)
unfolding expr_tokens
operands-one Exprs.end p m = absurd (Memᴰ.not-nil m)
operands-one (Exprs.and e es) p (Memᴰ.head q) = subst⁻¹ (λ (z : List Token). 1 ≤ length z) q (expr-one e)
operands-one (Exprs.and e es) p (Memᴰ.tail m) = operands-one es p m

-- what operands' tokens are, where few
abbrev OperandWords : Exprs → Type 0
OperandWords es = (p : List Token) → Memᴰ p (operand_tokens es) → Few p → ProperTokens p

join-words : (ps : List (List Token)) → ((p : List Token) → Memᴰ p ps → Few p → ProperTokens p) → Few (join ps) → ProperTokens (join ps)
join-words [] h w = nil-words
join-words (p ∷ ps) h w = app-words p (join ps) w (h p (Memᴰ.head refl)) (join-words ps (λ q m. h q (Memᴰ.tail m)))

fields-words : (fs : List ℕ) (es : Exprs) → All Word fs → OperandWords es → Few (field_tokens fs (operand_tokens es)) → ProperTokens (field_tokens fs (operand_tokens es))
unfolding field_tokens expr_tokens
fields-words [] es a h w = nil-words
fields-words (f ∷ fs) Exprs.end a h w = nil-words
fields-words (f ∷ fs) (Exprs.and e es) a h w = cons-words (Token.Name f) (expr_tokens e ++ field_tokens fs (operand_tokens es)) (a f (Memᴰ.head refl))
    (app-words (expr_tokens e) (field_tokens fs (operand_tokens es)) (few-tail (Token.Name f) (expr_tokens e ++ field_tokens fs (operand_tokens es)) w) (h (expr_tokens e) (Memᴰ.head refl))
    (fields-words fs es (λ x m. a x (Memᴰ.tail m)) (λ p m. h p (Memᴰ.tail m))))

fields-length : (fs : List ℕ) (es : Exprs) → many es ≡ length fs → length (operand_tokens es) ≤ length (field_tokens fs (operand_tokens es))
unfolding field_tokens expr_tokens
fields-length [] Exprs.end e = omega arith
fields-length [] (Exprs.and x es) e = absurd (omega arith)
fields-length (f ∷ fs) Exprs.end e = omega arith
fields-length (f ∷ fs) (Exprs.and x es) e =
    let p = fields-length fs es (omega arith) in
    let q = length-append (expr_tokens x) (field_tokens fs (operand_tokens es)) in
    omega arith

iteration-words : (k : ℕ) (es : Exprs) → ShapedIteration k (many es) → OperandWords es → Few (iteration_tokens k (operand_tokens es)) → ProperTokens (iteration_tokens k (operand_tokens es))
unfolding expr_tokens
iteration-words zero es s h w =
    let p = joined_length (operand_tokens es) (operands-one es) in
    cons-words (Token.Count 0) _ (omega arith) (cons-words (Token.Count (length (operand_tokens es))) (join (operand_tokens es)) (omega arith) (join-words (operand_tokens es) h (omega arith)))
iteration-words (suc zero) Exprs.end s h w = absurd s
iteration-words (suc zero) (Exprs.and e es) s h w =
    let p = joined_length (operand_tokens es) (operands-one es) in
    let rest : List Token = Token.Count (length (operand_tokens es)) ∷ join (operand_tokens es) in
    let q = length-append (expr_tokens e ++ []) rest in
    let f : Few ((expr_tokens e ++ []) ++ rest) = omega arith in
    cons-words (Token.Count 1) ((expr_tokens e ++ []) ++ rest) (omega arith) (app-words (expr_tokens e ++ []) rest f
    (λ g. app-words (expr_tokens e) [] g (h (expr_tokens e) (Memᴰ.head refl)) (λ g. nil-words))
    (λ g. cons-words (Token.Count (length (operand_tokens es))) (join (operand_tokens es)) (omega arith) (join-words (operand_tokens es) (λ p m. h p (Memᴰ.tail m)) (omega arith))))
iteration-words (suc (suc k)) es s h w = absurd s

-- a token, then operands' tokens
plain-words : (k : Token) (es : Exprs) → Proper words k → OperandWords es → Few (k ∷ join (operand_tokens es)) → ProperTokens (k ∷ join (operand_tokens es))
plain-words k es v h w = cons-words k (join (operand_tokens es)) v (join-words (operand_tokens es) h (few-tail k (join (operand_tokens es)) w))

-- a token and a count, then operands' tokens
counting-words : (k : Token) (es : Exprs) → Proper words k → OperandWords es → Few (k ∷ Token.Count (length (operand_tokens es)) ∷ join (operand_tokens es)) → ProperTokens (k ∷ Token.Count (length (operand_tokens es)) ∷ join (operand_tokens es))
counting-words k es v h w =
    let p = joined_length (operand_tokens es) (operands-one es) in
    cons-words k _ v (cons-words (Token.Count (length (operand_tokens es))) (join (operand_tokens es)) (omega arith) (join-words (operand_tokens es) h (omega arith)))

head-words : (g : Head) (es : Exprs) → ShapedHead words g (many es) → NamedHead words g → OperandWords es → Few (form_tokens g (operand_tokens es)) → ProperTokens (form_tokens g (operand_tokens es))
unfolding form_tokens
head-words (Head.unary v) es s u h w = plain-words (Token.Expression (ExprToken.Unary v)) es u h w
head-words (Head.binary v) es s u h w = plain-words (Token.Expression (ExprToken.Binary v)) es u h w
head-words (Head.field v) es s u h w = plain-words (Token.Expression (ExprToken.Field v)) es u h w
head-words Head.if es s u h w = plain-words (Token.Expression ExprToken.If) es (omega arith) h w
head-words Head.index es s u h w = plain-words (Token.Expression ExprToken.Index) es (omega arith) h w
head-words Head.tuple es s u h w = counting-words (Token.Expression ExprToken.Tuple) es (omega arith) h w
head-words Head.array es s u h w = counting-words (Token.Expression ExprToken.Array) es (omega arith) h w
head-words (Head.struct v fs) es s u h w =
    let p = fields-length fs es s in
    cons-words (Token.Expression (ExprToken.Struct v)) _ u.0 (cons-words (Token.Count (length (operand_tokens es))) (field_tokens fs (operand_tokens es)) (omega arith) (fields-words fs es u.1 h (omega arith)))
head-words (Head.cast a) es s u h w = cons-words (Token.Expression ExprToken.Cast) (ty_tokens a ++ join (operand_tokens es)) (omega arith)
    (app-words (ty_tokens a) (join (operand_tokens es)) (few-tail (Token.Expression ExprToken.Cast) (ty_tokens a ++ join (operand_tokens es)) w) (λ g. ty-words a s.0) (join-words (operand_tokens es) h))
head-words (Head.map v k) es s u h w = cons-words (Token.Expression (ExprToken.Map v)) (iteration_tokens k (operand_tokens es)) u (iteration-words k es s h (few-tail (Token.Expression (ExprToken.Map v)) (iteration_tokens k (operand_tokens es)) w))
head-words (Head.fold v k) es s u h w = cons-words (Token.Expression (ExprToken.Fold v)) (iteration_tokens k (operand_tokens es)) u (iteration-words k es s h (few-tail (Token.Expression (ExprToken.Fold v)) (iteration_tokens k (operand_tokens es)) w))

operands-cons : (e : Expr) (es : Exprs) → (Few (expr_tokens e) → ProperTokens (expr_tokens e)) → OperandWords es → OperandWords (Exprs.and e es)
unfolding expr_tokens
operands-cons e es f g p (Memᴰ.head q) = subst⁻¹ (λ (z : List Token). Few z → ProperTokens z) q f
operands-cons e es f g p (Memᴰ.tail m) = g p m

literal-words : (l : Literal) (w : ℕ) → ShapedLiteral l w → ProperTokens (literal_tokens l w)
literal-words (Literal.Bool v) w s = cons-words (Token.Expression (ExprToken.Const (Literal.Bool v))) [] s.0 nil-words
literal-words (Literal.Int v) w s = cons-words (Token.Expression (ExprToken.Const (Literal.Int v))) _ s.0 (cons-words (Token.High w) [] s.1 nil-words)
literal-words (Literal.Float v) w s = cons-words (Token.Expression (ExprToken.Const (Literal.Float v))) _ s.0 (cons-words (Token.High w) [] s.1 nil-words)
literal-words (Literal.Char v) w s = cons-words (Token.Expression (ExprToken.Const (Literal.Char v))) [] s.0 nil-words

when-word : (u : Test) (x : ℕ) → Word x → Proper words (Token.Expression (when_token u x))
when-word Test.On x w = w
when-word Test.Not x w = w

mutual
  unfolding expr_tokens Shaped

  expr-words : (e : Expr) → Shaped words e → Few (expr_tokens e) → ProperTokens (expr_tokens e)
  expr-words (Expr.const l v) s w = literal-words l v s
  expr-words (Expr.var x) s w = cons-words (Token.Expression (ExprToken.Var x)) [] s nil-words
  expr-words (Expr.op h es) s w = head-words h es s.0 s.2 (operand-words es s.1) w
  expr-words (Expr.pre e) s w = cons-words (Token.Expression ExprToken.Pre) (expr_tokens e) (omega arith) (expr-words e s (few-tail (Token.Expression ExprToken.Pre) (expr_tokens e) w))
  expr-words (Expr.arrow a b) s w = cons-words (Token.Expression ExprToken.Arrow) (expr_tokens a ++ expr_tokens b) (omega arith) (app-words (expr_tokens a) (expr_tokens b) (few-tail (Token.Expression ExprToken.Arrow) (expr_tokens a ++ expr_tokens b) w) (λ w. expr-words a s.0 w) (λ w. expr-words b s.1 w))
  expr-words (Expr.call f es) s w = counting-words (Token.Expression (ExprToken.Call f)) es s.1 (operand-words es s.0) w
  expr-words (Expr.when k e) s w = cons-words (Token.Expression (when_token k.test k.name)) (expr_tokens e) (when-word k.test k.name s.1) (expr-words e s.0 (few-tail (Token.Expression (when_token k.test k.name)) (expr_tokens e) w))
  expr-words (Expr.merge x a b) s w = cons-words (Token.Expression (ExprToken.Merge x)) (expr_tokens a ++ expr_tokens b) s.2 (app-words (expr_tokens a) (expr_tokens b) (few-tail (Token.Expression (ExprToken.Merge x)) (expr_tokens a ++ expr_tokens b) w) (λ w. expr-words a s.0 w) (λ w. expr-words b s.1 w))

  operand-words : (es : Exprs) → Shapeds words es → OperandWords es
  operand-words Exprs.end s = λ p m w. absurd (Memᴰ.not-nil m)
  operand-words (Exprs.and e es) s = operands-cons e es (λ w. expr-words e s.0 w) (operand-words es s.1)

equation-words : (e : Equation) → ShapedEquation words e → Few (equation_tokens e) → ProperTokens (equation_tokens e)
unfolding equation_tokens
equation-words e s w =
    let p = length-append (name_tokens e.left) (expr_tokens e.right) in
    let q = length-names e.left in
    cons-words (Token.Count (length e.left)) _ (omega arith) (app-words (name_tokens e.left) (expr_tokens e.right) (omega arith) (λ g. names-words e.left s.1) (expr-words e.right s.0))

equation-one : (e : Equation) → 1 ≤ length (equation_tokens e)
unfolding equation_tokens
equation-one e = omega arith

declareds-words : (ds : List Declared) → All (ShapedDeclared words) ds → Few (counted_tokens declared_tokens ds) → ProperTokens (counted_tokens declared_tokens ds)
declareds-words ds s w = counted_words declared_tokens declared-one ds (λ d m f. declared-words d (s d m)) w

node-words : (n : Node) → ShapedNode words n → Few (node_tokens n) → ProperTokens (node_tokens n)
unfolding node_tokens
node-words n s w =
    let ps : List Token = counted_tokens probe_tokens n.probes in
    let es : List Token = counted_tokens equation_tokens n.equations in
    let ls : List Token = counted_tokens declared_tokens n.locals in
    let os : List Token = counted_tokens declared_tokens n.outputs in
    let is : List Token = counted_tokens declared_tokens n.inputs in
    cons-words (Token.Node n.name) _ s.name (cons-words (Token.Kind n.kind) (is ++ (os ++ (ls ++ (es ++ ps)))) tt
    (app-words is (os ++ (ls ++ (es ++ ps))) (few-tail (Token.Kind n.kind) (is ++ (os ++ (ls ++ (es ++ ps)))) (few-tail (Token.Node n.name) (Token.Kind n.kind ∷ (is ++ (os ++ (ls ++ (es ++ ps))))) w)) (declareds-words n.inputs s.inputs) (λ w.
    app-words os (ls ++ (es ++ ps)) w (declareds-words n.outputs s.outputs) (λ w.
    app-words ls (es ++ ps) w (declareds-words n.locals s.locals) (λ w.
    app-words es ps w (counted_words equation_tokens equation-one n.equations (λ e m. equation-words e (s.equations e m)))
    (counted_words probe_tokens (λ p. omega arith) n.probes (λ p m f. cons-words (Token.Name p.label) _ (s.probes p m).0 (cons-words (Token.Name p.name) [] (s.probes p m).1 nil-words))))))))

definition-words : (x : ℕ) (b : Body) → Word x → ShapedBody words b → Few (definition_tokens x b) → ProperTokens (definition_tokens x b)
unfolding definition_tokens
definition-words x (Body.enum vs) u s w = cons-words (Token.Definition (DefinitionToken.Enum x)) _ u (cons-words (Token.Count (length vs)) (name_tokens vs) (let p = length-names vs in omega arith) (names-words vs s))
definition-words x (Body.fields fs) u s w = cons-words (Token.Definition (DefinitionToken.Record x)) (counted_tokens declared_tokens fs) u (declareds-words fs s (few-tail (Token.Definition (DefinitionToken.Record x)) (counted_tokens declared_tokens fs) w))
definition-words x (Body.alias a) u s w = cons-words (Token.Definition (DefinitionToken.Alias x)) (ty_tokens a) u (ty-words a s)

definition-one : (d : TypeDef) → 1 ≤ length (definition_tokens d.name d.body)
unfolding definition_tokens
definition-one d = go d.body
  where
    go : (b : Body) → 1 ≤ length (definition_tokens d.name b)
    go (Body.enum vs) = omega arith
    go (Body.fields fs) = omega arith
    go (Body.alias a) = omega arith

node-one : (n : Node) → 1 ≤ length (node_tokens n)
unfolding node_tokens
node-one n = omega arith

pub sheet-words : (s : Sheet) → ShapedSheet s → Word (length (sheet_tokens s)) → ProperTokens (sheet_tokens s)
unfolding sheet_tokens
sheet-words s h w =
    let f : TypeDef → List Token = λ d. definition_tokens d.name d.body in
    let a : List Token = join (map f s.types) in
    let b : List Token = join (map node_tokens s.nodes) in
    let p = items-length f definition-one s.types in
    let q = items-length node_tokens node-one s.nodes in
    let r = length-append a (Token.Nodes (length s.nodes) ∷ b) in
    cons-words (Token.Types (length s.types)) (a ++ (Token.Nodes (length s.nodes) ∷ b)) (omega arith) (app-words a (Token.Nodes (length s.nodes) ∷ b) (omega arith)
    (items-words f definition-one s.types (λ d m. definition-words d.name d.body (h.types d m).1 (h.types d m).0))
    (λ g. cons-words (Token.Nodes (length s.nodes)) b (omega arith) (items-words node_tokens node-one s.nodes (λ n m. node-words n (h.nodes n m)) (omega arith))))
