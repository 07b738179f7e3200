-- What the grammar reads has its shape, and its tokens, as the writer would write them, are those that were read.
use mathlib.Core.Path.{◌≡◌, refl, sym, ap, ◌∙◌, subst, subst⁻¹}
use mathlib.Core.Bool.{Bool, true, false}
use mathlib.Core.List.{List, [], ◌∷◌, ◌++◌, map, append-nil}
use mathlib.Core.Option.{Option, none, some}
use Prim.Native.Nat.{ℕ, zero, suc, ◌-◌, ◌<◌, ◌≤◌}
use native.Mathlib.Omega.{arith}
use lib.Dec.{eqb}
use lib.ListN.{length, drop, drop_of_length-le}
use Rattle.std.proofs.lemmas.Bool.{eqb-true}
use Rattle.definitions.specs.declared.Literal.{Literal}
use Rattle.definitions.specs.declared.NodeKind.{NodeKind}
use Rattle.definitions.specs.declared.TypeToken.{TypeToken}
use Rattle.definitions.specs.declared.DefinitionToken.{DefinitionToken}
use Rattle.definitions.specs.declared.ExprToken.{ExprToken}
use Rattle.definitions.specs.declared.Token.{Token}
use Rattle.definitions.specs.declared.Refusal.{Refusal}
use Rattle.definitions.specs.Lists.{choose, join}
use Rattle.definitions.specs.Tokens.{TagValue, tag_value, code_of, type_token_of, definition_token_of, expr_token_of}
use Rattle.definitions.specs.Tree.{Ty, TypeDef, Head, Expr, Exprs, Node}
use Rattle.definitions.specs.Reading.{Got, got, rejected, Reader, after, token, times}
use Rattle.definitions.specs.Grammar.{most_declared, most_left, most_counted, most_types, most_nodes, deepest_type, deepest_expr, no_array, short_enough, typed, append, counted, name, count, ty, declaration, definition, type_def, kind_at, exprs, fields, constant, form, expr, equation, probe, declarations, node, sheet}
use Rattle.definitions.specs.Output.{ty_tokens, name_tokens, declared_tokens, counted_tokens, field_tokens, iteration_tokens, form_tokens, expr_tokens, operand_tokens, definition_tokens, equation_tokens, probe_tokens, node_tokens, sheet_tokens}
use Rattle.shapes.proofs.Facts.{All, all_nil, all_cons}
use Rattle.shapes.proofs.Coded.{ProperType, ProperDefinition, ProperExpr}
use Rattle.shapes.proofs.Decoded.{Maybe, type-decoded, definition-decoded, expr-decoded, kind-decoded}
use Rattle.shapes.proofs.Gives.{Gives, gives, refuses, gives_after, gives-limited, Stands, stands-nil, ◌then◌, token-gives, tagged-gives, counted-gives, count_gives, high-gives, times-gives, items-gives}
use Rattle.shapes.proofs.Written.{many-operands}
use Rattle.shapes.specs.Shape.{Word, ShapedTy, ShapedDeclared, many, ShapedIteration, ShapedHead, NamedHead, Shaped, Shapeds, ShapedEquation, ShapedProbe, ShapedDefinition, ShapedNode, ShapedBelow}

-- ids are below M, and so below N; the values are words
module _ (M N : ℕ) (small : M ≤ N) (ts : List TagValue) (wide : All (λ k. Word k.value) ts) where
  -- what a reading yields has its shape, and its tokens stand there
  abbrev Read : {A : Type 0} → (A → Type 0) → (A → List Token) → Reader A → Type 0
  Read P f r = (p : ℕ) → Gives (λ a q. P a × Stands ts (f a) p q) (r ts p)

  -- and these tokens stood before it
  abbrev Ends : {A : Type 0} → (A → Type 0) → (A → List Token) → List Token → Reader A → Type 0
  Ends P f l r = (p₀ p : ℕ) → Stands ts l p₀ p → Gives (λ a q. P a × Stands ts (f a) p₀ q) (r ts p)

  name-read : Read (λ x. x < N) (λ x. Token.Name x ∷ []) (name M)
  unfolding name code_of
  name-read p = go (tagged-gives ts wide Token.Name 4 M (λ n. refl) p)
    where
      go : {g : Got ℕ} → Gives (λ x q. (x < M) × Stands ts (Token.Name x ∷ []) p q) g → Gives (λ x q. (x < N) × Stands ts (Token.Name x ∷ []) p q) g
      go refuses = refuses
      go (gives {a = x} u) = gives {a = x} (let l = u.0 in omega arith, u.1)

  -- types
  type-read : Read (ProperType N) (λ a. Token.Type a ∷ []) (token (type_token_of M))
  type-read p = token-gives ts wide (ProperType N) Token.Type (type_token_of M) (λ tag v w. type-decoded M N small tag v w) p

  typed-ends : (k : TypeToken) → ProperType N k → (r : Reader Ty) → Read (ShapedTy N) ty_tokens r → Ends (ShapedTy N) ty_tokens (Token.Type k ∷ []) (typed k r)
  unfolding ty_tokens
  typed-ends (TypeToken.Basic b) h r read p₀ p s = gives (tt, s)
  typed-ends (TypeToken.Array n) h r read p₀ p s = gives_after _ (read p) (λ a q u. gives ((u.0, h), s then u.1))
  typed-ends (TypeToken.Named x) h r read p₀ p s = gives (h, s)

  ty-read : (d : ℕ) → Read (ShapedTy N) ty_tokens (ty M d)
  unfolding ty
  ty-read zero p = gives_after _ (gives-limited no_array (token (type_token_of M)) ts p (type-read p)) (λ k q u. typed-ends k u.0.0 _ (λ p. refuses) p q u.0.1)
  ty-read (suc d) p = gives_after _ (gives-limited short_enough (token (type_token_of M)) ts p (type-read p)) (λ k q u. typed-ends k u.0.0 (ty M d) (ty-read d) p q u.0.1)

  pub declaration-read : Read (ShapedDeclared N) declared_tokens (declaration M)
  unfolding declaration declared_tokens
  declaration-read p = gives_after _ (name-read p) (λ x q u. gives_after _ (ty-read deepest_type q) (λ a q₁ v. gives ((v.0, u.0), u.1 then v.1)))

  -- names
  names-join : (xs : List ℕ) → join (map (λ x. Token.Name x ∷ []) xs) ≡ name_tokens xs
  names-join [] = refl
  names-join (x ∷ xs) = ap {B = List Token} (λ z. Token.Name x ∷ z) (names-join xs)

  -- n names
  pub names-read : (n : ℕ) (p : ℕ) → Gives (λ xs q. All (λ x. x < N) xs × (length xs ≡ n) × Stands ts (name_tokens xs) p q) (times n (name M) ts p)
  names-read n p = go (times-gives ts wide (λ x. x < N) (λ x. Token.Name x ∷ []) n (name M) name-read p)
    where
      go : {g : Got (List ℕ)} → Gives (λ xs q. All (λ x. x < N) xs × (length xs ≡ n) × Stands ts (join (map (λ x. Token.Name x ∷ []) xs)) p q) g → Gives (λ xs q. All (λ x. x < N) xs × (length xs ≡ n) × Stands ts (name_tokens xs) p q) g
      go refuses = refuses
      go (gives {a = xs} {p = q} u) = gives (u.0, u.1, subst (λ (z : List Token). Stands ts z p q) (names-join xs) u.2)

  -- a count is the number of what follows
  counted-as : {n m p q : ℕ} → m ≡ n → Stands ts (Token.Count n ∷ []) p q → Stands ts (Token.Count m ∷ []) p q
  counted-as {n} {m} {p} {q} e s = subst⁻¹ (λ (z : ℕ). Stands ts (Token.Count z ∷ []) p q) e s

  -- definitions
  abbrev pub defined : TypeDef → List Token
  defined d = definition_tokens d.name d.body

  definition-ends : (k : DefinitionToken) → ProperDefinition N k → Ends (ShapedDefinition N) defined (Token.Definition k ∷ []) (definition M k)
  unfolding definition definition_tokens
  definition-ends (DefinitionToken.Enum x) h p₀ p s = gives_after _ (count_gives ts wide most_counted p) (λ n q u. gives_after _ (names-read n q) (λ vs q₁ v. gives ((v.0, h), s then counted-as v.1 u.1 then v.2)))
  definition-ends (DefinitionToken.Record x) h p₀ p s = gives_after _ (count_gives ts wide most_counted p) (λ n q u.
      gives_after _ (times-gives ts wide (ShapedDeclared N) declared_tokens n (declaration M) declaration-read q) (λ fs q₁ v. gives ((v.0, h), s then counted-as v.1 u.1 then v.2)))
  definition-ends (DefinitionToken.Alias x) h p₀ p s = gives_after _ (ty-read deepest_type p) (λ a q u. gives ((u.0, h), s then u.1))

  pub type_def-read : Read (ShapedDefinition N) defined (type_def M)
  unfolding type_def
  type_def-read p = gives_after _ (token-gives ts wide (ProperDefinition N) Token.Definition (definition_token_of M) (λ tag v w. definition-decoded M N small tag v w) p) (λ k q u. definition-ends k u.0 p q u.1)

  -- expressions, r reading an operand
  module _ (r : Reader Expr) (read : Read (Shaped N) expr_tokens r) where
    exprs-read : (n p : ℕ) → Gives (λ es q. Shapeds N es × (many es ≡ n) × Stands ts (join (operand_tokens es)) p q) (exprs n r ts p)
    unfolding exprs Shaped expr_tokens
    exprs-read zero p = gives (tt, refl, stands-nil ts p)
    exprs-read (suc n) p = gives_after _ (read p) (λ e q u. gives_after _ (exprs-read n q) (λ es q₁ v. gives ((u.0, v.0), ap suc v.1, u.1 then v.2)))

    fields_read : (n p : ℕ) → Gives (λ x q. Shapeds N x.1 × (many x.1 ≡ length x.0) × All (λ f. f < N) x.0 × (many x.1 ≡ n) × Stands ts (field_tokens x.0 (operand_tokens x.1)) p q) (fields M n r ts p)
    unfolding fields Shaped expr_tokens field_tokens
    fields_read zero p = gives (tt, refl, all_nil (λ f. f < N), refl, stands-nil ts p)
    fields_read (suc n) p = gives_after _ (name-read p) (λ f q₀ w. gives_after _ (read q₀) (λ e q u. gives_after _ (fields_read n q) (λ rest q₁ v.
        gives ((u.0, v.0), ap suc v.1, all_cons (λ f. f < N) f rest.0 w.0 v.2, ap suc v.3, w.1 then u.1 then v.4))))

    append-shape : (s es : Exprs) → Shapeds N s → Shapeds N es → Shapeds N (append s es)
    unfolding Shaped
    append-shape Exprs.end es a b = b
    append-shape (Exprs.and e s) es a b = (a.0, append-shape s es a.1 b)

    iteration-shape : (k : ℕ) → k ≤ 1 → (s es : Exprs) → many s ≡ k → ShapedIteration k (many (append s es))
    iteration-shape zero l s es e = tt
    iteration-shape (suc zero) l Exprs.end es e = absurd (omega arith)
    iteration-shape (suc zero) l (Exprs.and x s) es e = tt
    iteration-shape (suc (suc k)) l s es e = absurd (omega arith)

    -- an iteration's tokens, from those of its start values and of its arrays
    iteration-stands : (k : ℕ) → k ≤ 1 → (s es : Exprs) → many s ≡ k → {n p q q₁ q₂ q₃ : ℕ} → many es ≡ n
        → Stands ts (Token.Count k ∷ []) p q → Stands ts (join (operand_tokens s)) q q₁ → Stands ts (Token.Count n ∷ []) q₁ q₂ → Stands ts (join (operand_tokens es)) q₂ q₃
        → Stands ts (iteration_tokens k (operand_tokens (append s es))) p q₃
    unfolding expr_tokens
    iteration-stands zero l Exprs.end es e m a b c d = a then b then counted-as (many-operands es ∙ m) c then d
    iteration-stands zero l (Exprs.and x s) es e m a b c d = absurd (omega arith)
    iteration-stands (suc zero) l Exprs.end es e m a b c d = absurd (omega arith)
    iteration-stands (suc zero) l (Exprs.and x Exprs.end) es e m a b c d = a then b then counted-as (many-operands es ∙ m) c then d
    iteration-stands (suc zero) l (Exprs.and x (Exprs.and y s)) es e m a b c d = absurd (omega arith)
    iteration-stands (suc (suc k)) l s es e m a b c d = absurd (omega arith)

    computed-ends : (g : Head) (n : ℕ) (l : List Token) → ((es : Exprs) → many es ≡ n → ShapedHead N g (many es)) → NamedHead N g → ((es : Exprs) → l ++ join (operand_tokens es) ≡ form_tokens g (operand_tokens es))
        → Ends (Shaped N) expr_tokens l (λ ts p. after (exprs n r ts p) (λ es q. got (Expr.op g es) q))
    unfolding Shaped expr_tokens
    computed-ends g n l f w c p₀ p s = gives_after _ (exprs-read n p) (λ es q u. gives ((f es u.1, u.0, w), subst (λ (z : List Token). Stands ts z p₀ q) (c es) (s then u.2)))

    constant-ends : (l : Literal) → ProperExpr N (ExprToken.Const l) → Ends (Shaped N) expr_tokens (Token.Expression (ExprToken.Const l) ∷ []) (constant M l)
    unfolding constant Shaped expr_tokens
    constant-ends (Literal.Bool v) h p₀ p s = gives {a = Expr.const (Literal.Bool v) 0} ((h, refl), s)
    constant-ends (Literal.Int v) h p₀ p s = gives_after _ (high-gives ts wide p) (λ w q u. gives ((h, u.0), s then u.1))
    constant-ends (Literal.Float v) h p₀ p s = gives_after _ (high-gives ts wide p) (λ w q u. gives ((h, u.0), s then u.1))
    constant-ends (Literal.Char v) h p₀ p s = gives {a = Expr.const (Literal.Char v) 0} ((h, refl), s)

    -- a count, then operands
    items-ends : (f : Exprs → Expr) (t : Token) → ((es : Exprs) → Shapeds N es → Shaped N (f es)) → ((es : Exprs) → t ∷ Token.Count (length (operand_tokens es)) ∷ join (operand_tokens es) ≡ expr_tokens (f es))
        → Ends (Shaped N) expr_tokens (t ∷ []) (λ ts p. after (count most_counted ts p) (λ n q. after (exprs n r ts q) (λ es q. got (f es) q)))
    items-ends f t g c p₀ p s = gives_after _ (count_gives ts wide most_counted p) (λ n q u. gives_after _ (exprs-read n q) (λ es q₁ v.
        gives (g es v.0, subst (λ (z : List Token). Stands ts z p₀ q₁) (c es) (s then counted-as (many-operands es ∙ v.1) u.1 then v.2))))

    iterated-ends : (g : ℕ → Head) (t : Token) → ((k n : ℕ) → ShapedIteration k n → ShapedHead N (g k) n) → ((k : ℕ) → NamedHead N (g k)) → ((k : ℕ) (es : Exprs) → t ∷ iteration_tokens k (operand_tokens es) ≡ expr_tokens (Expr.op (g k) es))
        → Ends (Shaped N) expr_tokens (t ∷ []) (λ ts p. after (counted 3 0 1 ts p) (λ k q. after (exprs k r ts q) (λ s q. after (count most_counted ts q) (λ n q. after (exprs n r ts q) (λ es q. got (Expr.op (g k) (append s es)) q)))))
    unfolding Shaped code_of
    iterated-ends g t f w c p₀ p s = gives_after _ (counted-gives ts wide Token.Count 3 0 1 (λ n. refl) p) (λ k q a. gives_after _ (exprs-read k q) (λ o q₁ b.
        gives_after _ (count_gives ts wide most_counted q₁) (λ n q₂ d. gives_after _ (exprs-read n q₂) (λ es q₃ v.
        gives (
          (f k (many (append o es)) (iteration-shape k a.0 o es b.1), append-shape o es b.0 v.0, w k),
          subst (λ (z : List Token). Stands ts z p₀ q₃) (c k (append o es)) (s then iteration-stands k a.0 o es b.1 v.1 a.1 b.2 d.1 v.2),
        )))))

    form-ends : (h : ExprToken) → ProperExpr N h → Ends (Shaped N) expr_tokens (Token.Expression h ∷ []) (form M h r)
    unfolding form Shaped expr_tokens
    form-ends (ExprToken.Const l) h p₀ p s = constant-ends l h p₀ p s
    form-ends (ExprToken.Var x) h p₀ p s = gives (h, s)
    form-ends (ExprToken.Unary o) h p₀ p s = computed-ends (Head.unary o) 1 _ (λ es e. e) tt (λ es. refl) p₀ p s
    form-ends (ExprToken.Binary o) h p₀ p s = computed-ends (Head.binary o) 2 _ (λ es e. e) tt (λ es. refl) p₀ p s
    form-ends ExprToken.If h p₀ p s = computed-ends Head.if 3 _ (λ es e. e) tt (λ es. refl) p₀ p s
    form-ends ExprToken.Pre h p₀ p s = gives_after _ (read p) (λ a q u. gives (u.0, s then u.1))
    form-ends ExprToken.Arrow h p₀ p s = gives_after _ (read p) (λ a q u. gives_after _ (read q) (λ b q₁ v. gives ((u.0, v.0), s then u.1 then v.1)))
    form-ends (ExprToken.Call f) h p₀ p s = items-ends (Expr.call f) _ (λ es u. (u, h)) (λ es. refl) p₀ p s
    form-ends (ExprToken.Field x) h p₀ p s = computed-ends (Head.field x) 1 _ (λ es e. e) h (λ es. refl) p₀ p s
    form-ends ExprToken.Index h p₀ p s = computed-ends Head.index 2 _ (λ es e. e) tt (λ es. refl) p₀ p s
    form-ends ExprToken.Tuple h p₀ p s = items-ends (Expr.op Head.tuple) _ (λ es u. (tt, u, tt)) (λ es. refl) p₀ p s
    form-ends ExprToken.Array h p₀ p s = items-ends (Expr.op Head.array) _ (λ es u. (tt, u, tt)) (λ es. refl) p₀ p s
    form-ends (ExprToken.Struct x) h p₀ p s = gives_after _ (count_gives ts wide most_counted p) (λ n q u. gives_after _ (fields_read n q) (λ fs q₁ v.
        gives ((v.1, v.0, (h, v.2)), s then counted-as (many-operands fs.1 ∙ v.3) u.1 then v.4)))
    form-ends ExprToken.Cast h p₀ p s = gives_after _ (ty-read deepest_type p) (λ a q u. computed-ends (Head.cast a) 1 _ (λ es e. (u.0, e)) tt (λ es. refl) p₀ q (s then u.1))
    form-ends (ExprToken.When x) h p₀ p s = gives_after _ (read p) (λ a q u. gives ((u.0, h), s then u.1))
    form-ends (ExprToken.WhenNot x) h p₀ p s = gives_after _ (read p) (λ a q u. gives ((u.0, h), s then u.1))
    form-ends (ExprToken.Merge x) h p₀ p s = gives_after _ (read p) (λ a q u. gives_after _ (read q) (λ b q₁ v. gives ((u.0, v.0, h), s then u.1 then v.1)))
    form-ends (ExprToken.Map f) h p₀ p s = iterated-ends (Head.map f) _ (λ k n e. e) (λ k. h) (λ k es. refl) p₀ p s
    form-ends (ExprToken.Fold f) h p₀ p s = iterated-ends (Head.fold f) _ (λ k n e. e) (λ k. h) (λ k es. refl) p₀ p s

  head_read : Read (ProperExpr N) (λ h. Token.Expression h ∷ []) (token (expr_token_of M))
  head_read p = token-gives ts wide (ProperExpr N) Token.Expression (expr_token_of M) (λ tag v w. expr-decoded M N small tag v w) p

  expr-read : (d : ℕ) → Read (Shaped N) expr_tokens (expr M d)
  unfolding expr
  expr-read zero p = gives_after _ (gives-limited (λ h. false) (token (expr_token_of M)) ts p (head_read p)) (λ h q u. form-ends _ (λ p. refuses) h u.0.0 p q u.0.1)
  expr-read (suc d) p = gives_after _ (head_read p) (λ h q u. form-ends (expr M d) (expr-read d) h u.0 p q u.1)

  pub equation-read : Read (ShapedEquation N) equation_tokens (equation M)
  unfolding equation equation_tokens code_of
  equation-read p = gives_after _ (counted-gives ts wide Token.Count 3 1 most_left (λ n. refl) p) (λ n q u. gives_after _ (names-read n q) (λ xs q₁ v. gives_after _ (expr-read deepest_expr q₁) (λ e q₂ w.
      gives ((w.0, v.0), counted-as v.1 u.1 then v.2 then w.1))))

  pub probe-read : Read (ShapedProbe N) probe_tokens (probe M)
  unfolding probe
  probe-read p = gives_after _ (name-read p) (λ l q u. gives_after _ (name-read q) (λ n q₁ v. gives ((u.0, v.0), u.1 then v.1)))

  declarations-read : (most : ℕ) → Read (All (ShapedDeclared N)) (counted_tokens declared_tokens) (declarations M most)
  unfolding declarations
  declarations-read most p = items-gives ts wide (ShapedDeclared N) declared_tokens most (declaration M) declaration-read p

  node-read : Read (ShapedNode N) node_tokens (node M)
  unfolding node node_tokens code_of
  node-read p =
      gives_after _ (tagged-gives ts wide Token.Node 40 M (λ n. refl) p) (λ n p₁ a.
      gives_after _ (token-gives ts wide (λ k. Unit {0}) Token.Kind kind_at (λ tag v w. kind tag v (kind_at tag v) (kind-decoded tag v)) p₁) (λ k p₂ b.
      gives_after _ (declarations-read most_declared p₂) (λ ins p₃ c.
      gives_after _ (declarations-read (most_declared - length ins) p₃) (λ outs p₄ d.
      gives_after _ (declarations-read (most_declared - length ins - length outs) p₄) (λ ls p₅ e.
      gives_after _ (count_gives ts wide most_counted p₅) (λ i p₆ f.
      gives_after _ (times-gives ts wide (ShapedEquation N) equation_tokens i (equation M) equation-read p₆) (λ es p₇ g.
      gives_after _ (count_gives ts wide most_counted p₇) (λ j p₈ h.
      gives_after _ (times-gives ts wide (ShapedProbe N) probe_tokens j (probe M) probe-read p₈) (λ ps p₉ l.
      gives (
        record { name = let z = a.0 in omega arith; inputs = c.0; outputs = d.0; locals = e.0; equations = g.0; probes = l.0 },
        a.1 then b.1 then c.1 then d.1 then e.1 then (counted-as g.1 f.1 then g.2) then counted-as l.1 h.1 then l.2,
      ))))))))))
    where
      kind : (tag v : ℕ) (o : Option NodeKind) → Maybe (λ k. code_of (Token.Kind k) ≡ tag_value tag v) o → Maybe (λ k. Unit {0} × (code_of (Token.Kind k) ≡ tag_value tag v)) o
      kind tag v none m = tt
      kind tag v (some k) m = (tt, m)

  -- nothing follows
  last : (p : ℕ) → p ≡ length ts → drop p ts ≡ []
  last p e = drop_of_length-le ts {i = p} (omega arith)

  pub sheet-read : Gives (λ s q. ShapedBelow N s × (map code_of (sheet_tokens s) ≡ ts)) (sheet M ts 0)
  unfolding sheet sheet_tokens code_of
  sheet-read =
      gives_after _ (counted-gives ts wide Token.Types 1 0 most_types (λ n. refl) 0) (λ n p a.
      gives_after _ (times-gives ts wide (ShapedDefinition N) defined n (type_def M) type_def-read p) (λ tys p₁ b.
      gives_after _ (counted-gives ts wide Token.Nodes 2 0 most_nodes (λ n. refl) p₁) (λ m p₂ c.
      gives_after _ (times-gives ts wide (ShapedNode N) node_tokens m (node M) node-read p₂) (λ ns p₃ d.
      go tys ns p₃ b.0 d.0
      (subst⁻¹ (λ (z : ℕ). Stands ts (Token.Types z ∷ []) 0 p) b.1 a.1 then b.2 then subst⁻¹ (λ (z : ℕ). Stands ts (Token.Nodes z ∷ []) p₁ p₂) d.1 c.1 then d.2)
      (eqb p₃ (length ts)) refl))))
    where
      go : (tys : List TypeDef) (ns : List Node) (p : ℕ) → All (ShapedDefinition N) tys → All (ShapedNode N) ns → Stands ts (sheet_tokens (record { types = tys; nodes = ns })) 0 p → (u : Bool) → eqb p (length ts) ≡ u
          → Gives (λ s q. ShapedBelow N s × (map code_of (sheet_tokens s) ≡ ts)) (choose u (got (record { types = tys; nodes = ns }) p) (rejected (Refusal.Token p)))
      go tys ns p a b s true e = gives (record { types = a; nodes = b }, sym (append-nil _) ∙ (ap (λ (z : List TagValue). map code_of (sheet_tokens (record { types = tys; nodes = ns })) ++ z) (sym (last p (eqb-true p (length ts) e))) ∙ s.stand))
      go tys ns p a b s false e = refuses
