-- Laws of writing flags: what the parts write makes what the whole writes.
-- Assumes nothing.
use mathlib.Core.Path.{◌≡◌, refl, sym, ◌∙◌, ap}
use mathlib.Core.List.{List, [], ◌∷◌, ◌++◌, map, append-nil}
use mathlib.Core.Bool.{Bool, true, false}
use Prim.Native.Nat.{ℕ, suc, ◌+◌, ◌-◌, ◌≤◌, ◌<◌}
use native.Mathlib.Omega.{arith}
use lib.ListN.{length, get_or, take}
use lib.Seq.{get_or-take}
use Rattle.std.specs.Prelude.{None}
use Rattle.std.specs.List.{slice_get}
use Rattle.std.proofs.lemmas.Option.{none-some, slice_get-get_or}
use Rattle.definitions.specs.declared.BinOp.{BinOp}
use Rattle.definitions.specs.declared.Condition.{Condition}
use Rattle.definitions.specs.declared.ExprToken.{ExprToken}
use Rattle.definitions.specs.declared.Literal.{Literal}
use Rattle.definitions.specs.declared.Primitive.{Primitive}
use Rattle.definitions.specs.declared.Test.{Test}
use Rattle.definitions.specs.declared.Token.{Token}
use Rattle.definitions.specs.declared.TypeToken.{TypeToken}
use Rattle.definitions.specs.declared.UnaryOp.{UnaryOp}
use Rattle.definitions.specs.Lists.{choose, join}
use Rattle.definitions.specs.Tree.{Ty, Expr}
use Rattle.definitions.specs.Clock.{Clock, ◌↓◌, parent, is_base}
use Rattle.definitions.specs.Declock.{and_of, condition_expr}
use Rattle.definitions.specs.Output.{ty_tokens, declared_tokens, expr_tokens, form_tokens, equation_tokens}
use Rattle.clock_tables.specs.Value.{clock_at}
use Rattle.chain_order.specs.Order.{row_of, picked}
use Rattle.stateless.specs.Yield.{Ids}
use Rattle.stateless.specs.Locals.{activation_by, first_tick_by, flag_locals, first_locals, local_declared, local_equation}
use Rattle.emit.specs.declared.output.Output.{Output}
use Rattle.emit.specs.Out.{emits}
use Rattle.emit.proofs.Laws.{emits-append, emits_none}
use Rattle.emit.proofs.NodePartsLaws.{after}
use Rattle.declock.specs.declared.Flags.{Flags}
use Rattle.declock.specs.Tabled.{FlagIds}
use Rattle.declock.specs.Parts.{declaration_tokens, declarations}

-- the id in a row of the order
pub id-here : (f : Flags) (id : Clock → ℕ) (lent : List ℕ) (i x : ℕ) → FlagIds f id → lent ≡ take f.names.now.ordered f.names.now.order → i < f.names.now.ordered → x ≡ get_or f.ids.now (get_or lent i 0) 0
    → x ≡ id (row_of f.clocks.words.now (get_or f.names.now.order i 0))
id-here f id lent i x t e u h =
    let row : get_or lent i 0 ≡ get_or f.names.now.order i 0 = ap (λ (l : List ℕ). get_or l i 0) e ∙ get_or-take f.names.now.ordered f.names.now.order i 0 u in
    h ∙ (ap (λ (r : ℕ). get_or f.ids.now r 0) (row ∙ sym (t.own i u)) ∙ sym (t.stands (row_of f.clocks.words.now (get_or f.names.now.order i 0))))

-- ---- a condition
abbrev variable : ℕ → Token
variable x = Token.Expression (ExprToken.Var x)

module _ (o o₁ : Output) (k : Condition) where
  pub condition-on : k.test ≡ Test.On → o₁ ≡ emits o (variable k.name ∷ []) → o₁ ≡ emits o (expr_tokens (condition_expr k))
  unfolding expr_tokens
  condition-on t e = e ∙ rw t

  pub condition-not : k.test ≡ Test.Not → o₁ ≡ emits o (Token.Expression (ExprToken.Unary UnaryOp.Not) ∷ variable k.name ∷ []) → o₁ ≡ emits o (expr_tokens (condition_expr k))
  unfolding expr_tokens form_tokens
  condition-not t e = e ∙ rw t

-- ---- the flag of a clock's parent
abbrev parent_tokens : (Clock → ℕ) → Clock → List Token
parent_tokens id c = choose (is_base c) [] (Token.Expression (ExprToken.Binary BinOp.And) ∷ variable (id c) ∷ [])

pub parent-none : (o : Output) (id : Clock → ℕ) (c : Clock) → is_base (parent c) ≡ true → o ≡ emits o (parent_tokens id (parent c))
parent-none o id c h = sym (emits_none o) ∙ rw h

pub parent-flag : (o o₁ : Output) (id : Clock → ℕ) (c : Clock) (x : ℕ) → is_base (parent c) ≡ false → x ≡ id (parent c)
    → o₁ ≡ emits o (Token.Expression (ExprToken.Binary BinOp.And) ∷ variable x ∷ []) → o₁ ≡ emits o (parent_tokens id (parent c))
parent-flag o o₁ id c x h i e = e ∙ rw (h, i)

-- ---- when a clock is on
module _ (i : Ids) (o o₁ : Output) (c : Clock) where
  pub on-base : (ks : List Condition) → None ≡ slice_get ks (length ks - 1) → clock_at ks (length ks) ≡ c → o₁ ≡ emits o (Token.Expression (ExprToken.Const (Literal.Bool 1)) ∷ []) → o₁ ≡ emits o (expr_tokens (activation_by i c))
  unfolding clock_at expr_tokens
  on-base [] n q e = rw (sym q) e
  on-base (k ∷ ks) n q e = absurd (none-some _ (n ∙ slice_get-get_or (k ∷ ks) (length (k ∷ ks) - 1) k (omega arith)))

  activation-tokens : (p : Clock) (k : Condition) → parent_tokens i.flag p ++ expr_tokens (condition_expr k) ≡ expr_tokens (activation_by i (p ↓ k))
  unfolding expr_tokens form_tokens
  activation-tokens p k = go (is_base p)
    where
      go : (b : Bool) → choose b [] (Token.Expression (ExprToken.Binary BinOp.And) ∷ variable (i.flag p) ∷ []) ++ expr_tokens (condition_expr k)
          ≡ expr_tokens (choose b (condition_expr k) (and_of (Expr.var (i.flag p)) (condition_expr k)))
      go true = refl
      go false = ap (λ (l : List Token). Token.Expression (ExprToken.Binary BinOp.And) ∷ variable (i.flag p) ∷ l) (sym (append-nil (expr_tokens (condition_expr k))))

  pub on-condition : (o₂ : Output) (p : Clock) (k : Condition) → c ≡ p ↓ k → o₁ ≡ emits o (parent_tokens i.flag (parent c)) → o₂ ≡ emits o₁ (expr_tokens (condition_expr k)) → o₂ ≡ emits o (expr_tokens (activation_by i c))
  on-condition o₂ p k q e f =
      after o o₁ o₂ _ _ (e ∙ ap (λ (d : Clock). emits o (parent_tokens i.flag (parent d))) q) f
      ∙ (ap (emits o) (activation-tokens p k) ∙ ap (λ (d : Clock). emits o (expr_tokens (activation_by i d))) (sym q))

-- ---- the first tick of a clock
pub first-tick : (i : Ids) (c : Clock) (x y : ℕ) (o o₁ : Output) → x ≡ i.first c → y ≡ i.flag c
    → o₁ ≡ emits o (Token.Expression ExprToken.Arrow ∷ Token.Expression (ExprToken.Const (Literal.Bool 1)) ∷ Token.Expression (ExprToken.Binary BinOp.And) ∷ Token.Expression ExprToken.Pre ∷ variable x
    ∷ Token.Expression (ExprToken.Unary UnaryOp.Not) ∷ Token.Expression ExprToken.Pre ∷ variable y ∷ [])
    → o₁ ≡ emits o (expr_tokens (first_tick_by i c))
unfolding expr_tokens form_tokens
first-tick i c x y o o₁ u v e = e ∙ rw (u, v)

-- ---- the rows that a chain names
module _ (f : ℕ → Clock) (chain : List ℕ) (T : List Clock → List Token) (m : ℕ) (whole : Output) where
  -- what the rows from i on say makes the whole
  abbrev pub Left : Output → ℕ → Type 0
  Left o i = whole ≡ emits o (T (picked f chain i (m - i)))

  pub rows_more : (line : Clock → List Token) → ((c : Clock) (cs : List Clock) → T (c ∷ cs) ≡ line c ++ T cs)
      → (o o₁ : Output) (i : ℕ) (c : Clock) → i < m → c ≡ f (get_or chain i 0) → Left o i → o₁ ≡ emits o (line c) → Left o₁ (i + 1)
  unfolding picked
  rows_more line more o o₁ i c h q e g =
      let n : m - i ≡ suc (m - (i + 1)) = omega arith in
      let rest = picked f chain (i + 1) (m - (i + 1)) in
      e ∙ (rw n (ap (emits o) (more (f (get_or chain i 0)) rest)) ∙ (ap (λ (d : Clock). emits o (line d ++ T rest)) (sym q) ∙ (sym (emits-append o (line c) (T rest)) ∙ ap (λ (x : Output). emits x (T rest)) (sym g))))

  pub rows_all : T [] ≡ [] → (o : Output) (i : ℕ) → m ≤ i → Left o i → o ≡ whole
  unfolding picked
  rows_all none o i h e = let n : m - i ≡ 0 = omega arith in sym (e ∙ rw n (ap (emits o) none ∙ emits_none o))

-- the clock in a row that is lent
pub row-here : (f : ℕ → Clock) (chain lent : List ℕ) (m i : ℕ) (c : Clock) → lent ≡ take m chain → i < m → c ≡ f (get_or lent i 0) → c ≡ f (get_or chain i 0)
row-here f chain lent m i c e u q = q ∙ ap f (ap (λ (l : List ℕ). get_or l i 0) e ∙ get_or-take m chain i 0 u)

-- ---- declarations
-- they are those of locals, whatever these are equal to
pub declared-locals : (id : Clock → ℕ) (right : Clock → Expr) (cs : List Clock)
    → declarations id cs ≡ join (map declared_tokens (map local_declared (map (λ (c : Clock). record { name = id c; type = Ty.primitive Primitive.Bool; right = right c }) cs)))
unfolding declared_tokens ty_tokens
declared-locals id right [] = refl
declared-locals id right (c ∷ cs) = ap (λ (l : List Token). declaration_tokens id c ++ l) (declared-locals id right cs)

pub declaration-line : (id : Clock → ℕ) (c : Clock) (x : ℕ) (o o₁ : Output) → x ≡ id c → o₁ ≡ emits o (Token.Name x ∷ Token.Type (TypeToken.Basic Primitive.Bool) ∷ []) → o₁ ≡ emits o (declaration_tokens id c)
declaration-line id c x o o₁ e f = f ∙ rw e

-- ---- equations
-- the equation of a clock's flag, of its first-tick flag
abbrev pub flag_equation : Ids → Clock → List Token
flag_equation i c = equation_tokens (record { left = i.flag c ∷ []; right = activation_by i c })

abbrev pub first_equation : Ids → Clock → List Token
first_equation i c = equation_tokens (record { left = i.first c ∷ []; right = first_tick_by i c })

-- the equations of the flags of clocks
abbrev pub flag_equations : Ids → List Clock → List Token
flag_equations i cs = join (map equation_tokens (map local_equation (flag_locals i cs)))

abbrev pub first_equations : Ids → List Clock → List Token
first_equations i cs = join (map equation_tokens (map local_equation (first_locals i cs)))

-- an equation of one name
pub equation-line : (x y : ℕ) (right : Expr) (o o₁ o₂ : Output) → x ≡ y → o₁ ≡ emits o (Token.Count 1 ∷ Token.Name x ∷ []) → o₂ ≡ emits o₁ (expr_tokens right)
    → o₂ ≡ emits o (equation_tokens (record { left = y ∷ []; right = right }))
unfolding equation_tokens
equation-line x y right o o₁ o₂ q e f = after o o₁ o₂ _ _ e f ∙ rw q
