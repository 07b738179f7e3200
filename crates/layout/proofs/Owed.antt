-- What the grammar reads is owed: an expression, a type and a declaration are each one part. Assumes nothing.
use mathlib.Core.Path.{◌≡◌, refl, sym, ◌∙◌, ap, subst}
use mathlib.Core.List.{List}
use mathlib.Core.Option.{Option, none}
use mathlib.Core.Bool.{Bool, false}
use Prim.Native.Nat.{ℕ, zero, suc, ◌+◌, ◌-◌, ◌<◌, ◌≤◌}
use native.Mathlib.Omega.{arith}
use lib.ListN.{length, get_or}
use Rattle.definitions.specs.declared.Refusal.{Refusal}
use Rattle.definitions.specs.declared.Literal.{Literal}
use Rattle.definitions.specs.declared.TypeToken.{TypeToken}
use Rattle.definitions.specs.declared.ExprToken.{ExprToken}
use Rattle.definitions.specs.Tokens.{type_token_of, expr_token_of}
use Rattle.definitions.specs.Bytes.{tokens}
use Rattle.definitions.specs.Tree.{Ty, Head, Expr, Exprs}
use Rattle.definitions.specs.Reading.{got, rejected, Reader, ◌>>=◌, return, token, limited, times}
use Rattle.definitions.specs.Grammar.{tagged, counted, count, high, name, no_array, short_enough, typed, ty, exprs, fields, constant, iteration, form, expr, declaration, most_counted, deepest_type}
use Rattle.grammar.proofs.Laws.{after-got, tokens-length}
use Rattle.grammar.proofs.Longer.{token-got, counted-grows, tagged-grows}
use Rattle.grammar.proofs.Got.{limited-got, token-value, tagged-value, counted-value}
use Rattle.shapes.proofs.Decoded.{Maybe}
use Rattle.layout.specs.Owed.{follows, Owed, paid, owes}
use Rattle.layout.specs.Marks.{Mark, mark_of, nowhere}
use Rattle.layout.proofs.Tags.{of-literal, of-expr, of-type, mark-of, expr-tags, type-tags, said}

-- none are owed: their end is here
pub owed_none : {gs vs : List ℕ} {p n q : ℕ} → Owed gs vs p n q → n ≡ 0 → p ≡ q
owed_none paid e = refl
owed_none (owes l h) e = absurd (omega arith)

-- one token is paid
pub owed-step : {gs vs : List ℕ} {p n q : ℕ} → Owed gs vs p n q → 0 < n → (p < length gs) × Owed gs vs (p + 1) (n - 1 + follows (get_or gs p 0) (get_or vs p 0)) q
owed-step paid e = absurd (omega arith)
owed-step {gs} {vs} {p} {n} {q} (owes {n = m} l h) e = (l, subst (λ (k : ℕ). Owed gs vs (p + 1) k q) (omega arith) h)

-- each part has a token
pub owed-few : {gs vs : List ℕ} {p n q : ℕ} → Owed gs vs p n q → n ≤ length gs - p
owed-few paid = omega arith
owed-few (owes l h) = let f = owed-few h in omega arith

-- each part's token is before the end
pub owed-on : {gs vs : List ℕ} {p n q : ℕ} → Owed gs vs p n q → p + n ≤ q
owed-on paid = omega arith
owed-on (owes l h) = let f = owed-on h in omega arith

-- the two arrays
module _ (gs vs : List ℕ) (same : length vs ≡ length gs) where
  -- what r reads is k parts, and those behind it follow
  pub record Owes {A : Type 0} (r : Reader A) (k : ℕ) : Type 0 where
    pub owing : (p : ℕ) (a : A) (q : ℕ) → r (tokens gs vs) p ≡ got a q → (m s : ℕ) → Owed gs vs q m s → Owed gs vs p (k + m) s

  -- r reads one token, and so many parts follow it
  record Heads {A : Type 0} (r : Reader A) (parts : A → ℕ) : Type 0 where
    heading : (p : ℕ) (a : A) (q : ℕ) → r (tokens gs vs) p ≡ got a q → (m s : ℕ) → Owed gs vs q (parts a + m) s → Owed gs vs p (suc m) s

  change : {k l p s : ℕ} → k ≡ l → Owed gs vs p k s → Owed gs vs p l s
  change {k} {l} {p} {s} e h = subst (λ (n : ℕ). Owed gs vs p n s) e h

  -- a token of this tag and value is here
  here : (p q n m s : ℕ) → p < length gs → q ≡ p + 1 → follows (get_or gs p 0) (get_or vs p 0) ≡ n → Owed gs vs q (n + m) s → Owed gs vs p (suc m) s
  here p q n m s b e f d = owes b (subst (λ (x : ℕ). Owed gs vs x (m + follows (get_or gs p 0) (get_or vs p 0)) s) e (change (omega arith) d))

  token-heads : {A : Type 0} (f : ℕ → ℕ → Option A) (parts : A → ℕ) (mark : A → Option Mark) → ((tag v : ℕ) → Maybe (λ a. (follows tag v ≡ parts a) × (mark_of nowhere tag v ≡ mark a)) (f tag v)) → Heads (token f) parts
  token-heads f parts mark h = record {
    heading = λ p a q g m s d.
        let b : p < length gs = omega (arith, (token-got f (tokens gs vs) p a q g).1, tokens-length gs vs same) in
        let t = token-value gs vs same p f a q b g in
        here p q (parts a) m s b t.1 (said (λ x. (follows (get_or gs p 0) (get_or vs p 0) ≡ parts x) × (mark_of nowhere (get_or gs p 0) (get_or vs p 0) ≡ mark x)) _ a (h (get_or gs p 0) (get_or vs p 0)) t.0).0 d;
  }

  limited-heads : {A : Type 0} (test : A → Bool) (r : Reader A) (parts : A → ℕ) → Heads r parts → Heads (limited test r) parts
  limited-heads test r parts h = record { heading = λ p a q g m s d. h.heading p a q (limited-got test r (tokens gs vs) p a q g).0 m s d }

  counted-heads : (low most : ℕ) → Heads (counted 3 low most) (λ n. n)
  unfolding follows
  counted-heads low most = record {
    heading = λ p n q g m s d.
        let w = counted-grows 3 low most (tokens gs vs) p n q g in
        let b : p < length gs = omega (arith, w.0, w.1, tokens-length gs vs same) in
        let v = counted-value gs vs same p 3 low most n q b g in
        here p q n m s b v.2 (ap (λ (t : ℕ). follows t (get_or vs p 0)) v.1 ∙ sym v.0) d;
  }

  tagged-heads : (tag bound n : ℕ) → ((v : ℕ) → follows tag v ≡ n) → Heads (tagged tag bound) (λ x. n)
  tagged-heads tag bound n f = record {
    heading = λ p x q g m s d.
        let w = tagged-grows tag bound (tokens gs vs) p x q g in
        let b : p < length gs = omega (arith, w.0, w.1, tokens-length gs vs same) in
        let v = tagged-value gs vs same p tag bound x q b g in
        here p q n m s b v.3 (ap (λ (t : ℕ). follows t (get_or vs p 0)) v.1 ∙ f (get_or vs p 0)) d;
  }

  count-heads : (most : ℕ) → Heads (count most) (λ n. n)
  unfolding count
  count-heads most = counted-heads 0 most

  high-heads : Heads high (λ x. 0)
  unfolding high follows
  high-heads = tagged-heads 5 _ 0 (λ v. refl)

  name-heads : (M : ℕ) → Heads (name M) (λ x. 1)
  unfolding name follows
  name-heads M = tagged-heads 4 M 1 (λ v. refl)

  -- readings one after another
  owes-return : {A : Type 0} (a : A) → Owes (return a) 0
  owes-return a = record { owing = λ p b q g m s d. let e : q ≡ p = cc in subst (λ (x : ℕ). Owed gs vs x (0 + m) s) e (change (omega arith) d) }

  owes-rejected : {A : Type 0} (t : ℕ → Refusal) (k : ℕ) → Owes {A = A} (λ ts p. rejected (t p)) k
  owes-rejected t k = record { owing = λ p b q g m s d. absurd cc }

  owes-then : {A B : Type 0} (r : Reader A) (f : A → Reader B) (k l : ℕ) → Owes r k → ((a : A) → Owes (f a) l) → Owes (r >>= f) (k + l)
  owes-then r f k l h i = record {
    owing = λ p b q g m s d.
        let x = after-got (r (tokens gs vs) p) _ b q g in
        change (omega arith) (h.owing p x.0 x.1 x.2 (l + m) s ((i x.0).owing x.1 b q x.3 m s d));
  }

  heads-then : {A B : Type 0} (r : Reader A) (f : A → Reader B) (parts : A → ℕ) (l : ℕ) → Heads r parts → ((a : A) → Owes (f a) (parts a + l)) → Owes (r >>= f) (suc l)
  heads-then r f parts l h i = record {
    owing = λ p b q g m s d.
        let x = after-got (r (tokens gs vs) p) _ b q g in
        change (omega arith) (h.heading p x.0 x.1 x.2 (l + m) s (change (omega arith) ((i x.0).owing x.1 b q x.3 m s d)));
  }

  owes-as : {A : Type 0} (r : Reader A) (k l : ℕ) → k ≡ l → Owes r k → Owes r l
  owes-as r k l e h = subst (λ (n : ℕ). Owes r n) e h

  -- a reading and what is made of it
  owes-made : {A B : Type 0} (r : Reader A) (f : A → B) (k : ℕ) → Owes r k → Owes (r >>= λ a. return (f a)) k
  owes-made r f k h = owes-as _ (k + 0) k (omega arith) (owes-then r _ k 0 h (λ a. owes-return (f a)))

  -- types
  typed-owes : (t : TypeToken) (r : Reader Ty) → Owes r 1 → Owes (typed t r) (of-type t)
  typed-owes (TypeToken.Basic b) r h = owes-return _
  typed-owes (TypeToken.Array n) r h = owes-made r _ 1 h
  typed-owes (TypeToken.Named x) r h = owes-return _

  module _ (M : ℕ) where
    type-heads : Heads (token (type_token_of M)) of-type
    type-heads = token-heads (type_token_of M) of-type (λ t. none) (type-tags nowhere M)

    pub type-owes : (d : ℕ) → Owes (ty M d) 1
    unfolding ty
    type-owes zero = heads-then _ _ of-type 0 (limited-heads no_array _ of-type type-heads) (λ t. owes-as _ _ _ (omega arith) (typed-owes t _ (owes-rejected Refusal.Limit 1)))
    type-owes (suc d) = heads-then _ _ of-type 0 (limited-heads short_enough _ of-type type-heads) (λ t. owes-as _ _ _ (omega arith) (typed-owes t (ty M d) (type-owes d)))

    pub declaration-owes : Owes (declaration M) 1
    unfolding declaration
    declaration-owes = heads-then (name M) _ (λ x. 1) 0 (name-heads M) (λ x. owes-made (ty M deepest_type) _ 1 (type-owes deepest_type))

    -- expressions, r reading an operand
    module _ (r : Reader Expr) (h : Owes r 1) where
      exprs-owes : (n : ℕ) → Owes (exprs n r) n
      unfolding exprs
      exprs-owes zero = owes-return _
      exprs-owes (suc n) = owes-as _ (1 + n) (suc n) (omega arith) (owes-then r _ 1 n h (λ e. owes-made (exprs n r) _ n (exprs-owes n)))

      fields-owes : (n : ℕ) → Owes (fields M n r) n
      unfolding fields
      fields-owes zero = owes-return _
      fields-owes (suc n) = heads-then (name M) _ (λ x. 1) n (name-heads M) (λ x. owes-then r _ 1 n h (λ e. owes-made (fields M n r) _ n (fields-owes n)))

      constant-owes : (l : Literal) → Owes (constant M l) (of-literal l)
      unfolding constant
      constant-owes (Literal.Bool v) = owes-return _
      constant-owes (Literal.Int v) = heads-then high _ (λ x. 0) 0 high-heads (λ w. owes-return _)
      constant-owes (Literal.Float v) = heads-then high _ (λ x. 0) 0 high-heads (λ w. owes-return _)
      constant-owes (Literal.Char v) = owes-return _

      computed-owes : (H : Exprs → Expr) (n : ℕ) → Owes (exprs n r >>= λ es. return (H es)) n
      computed-owes H n = owes-made (exprs n r) H n (exprs-owes n)

      items-owes : (H : Exprs → Expr) → Owes (count most_counted >>= λ n. exprs n r >>= λ es. return (H es)) 1
      items-owes H = heads-then (count most_counted) _ (λ n. n) 0 (count-heads most_counted) (λ n. owes-as _ n (n + 0) (omega arith) (computed-owes H n))

      iteration-owes : (H : ℕ → Head) → Owes (iteration M H r) 2
      iteration-owes H = heads-then (counted 3 0 1) _ (λ n. n) 1 (counted-heads 0 1) (λ k. owes-then (exprs k r) _ k 1 (exprs-owes k) (λ s. items-owes _))

      one-owes : (H : Expr → Expr) → Owes (r >>= λ a. return (H a)) 1
      one-owes H = owes-made r H 1 h

      two-owes : (H : Expr → Expr → Expr) → Owes (r >>= λ a. r >>= λ b. return (H a b)) 2
      two-owes H = owes-then r _ 1 1 h (λ a. one-owes (H a))

      form-owes : (t : ExprToken) → Owes (form M t r) (of-expr t)
      unfolding form
      form-owes (ExprToken.Const l) = constant-owes l
      form-owes (ExprToken.Var x) = owes-return _
      form-owes (ExprToken.Unary o) = computed-owes _ 1
      form-owes (ExprToken.Binary o) = computed-owes _ 2
      form-owes ExprToken.If = computed-owes _ 3
      form-owes ExprToken.Pre = one-owes _
      form-owes ExprToken.Arrow = two-owes _
      form-owes (ExprToken.Call f) = items-owes _
      form-owes (ExprToken.Field x) = computed-owes _ 1
      form-owes ExprToken.Index = computed-owes _ 2
      form-owes ExprToken.Tuple = items-owes _
      form-owes ExprToken.Array = items-owes _
      form-owes (ExprToken.Struct x) = heads-then (count most_counted) _ (λ n. n) 0 (count-heads most_counted) (λ n. owes-as _ n (n + 0) (omega arith) (owes-made (fields M n r) _ n (fields-owes n)))
      form-owes ExprToken.Cast = owes-then (ty M deepest_type) _ 1 1 (type-owes deepest_type) (λ a. computed-owes _ 1)
      form-owes (ExprToken.When x) = one-owes _
      form-owes (ExprToken.WhenNot x) = one-owes _
      form-owes (ExprToken.Merge x) = two-owes _
      form-owes (ExprToken.Map f) = iteration-owes _
      form-owes (ExprToken.Fold f) = iteration-owes _

    expr-heads : Heads (token (expr_token_of M)) of-expr
    expr-heads = token-heads (expr_token_of M) of-expr (mark-of (λ x. none)) (expr-tags nowhere (λ x. none) M (λ x l. refl))

    pub expr-owes : (d : ℕ) → Owes (expr M d) 1
    unfolding expr
    expr-owes zero = heads-then _ _ of-expr 0 (limited-heads (λ h. false) _ of-expr expr-heads) (λ t. owes-as _ _ _ (omega arith) (form-owes _ (owes-rejected Refusal.Limit 1) t))
    expr-owes (suc d) = heads-then _ _ of-expr 0 expr-heads (λ t. owes-as _ _ _ (omega arith) (form-owes (expr M d) (expr-owes d) t))

  -- n of them
  pub times-owes : {A : Type 0} (r : Reader A) → Owes r 1 → (n : ℕ) → Owes (times n r) n
  unfolding times
  times-owes r h zero = owes-return _
  times-owes r h (suc n) = owes-as _ (1 + n) (suc n) (omega arith) (owes-then r _ 1 n h (λ a. owes-made (times n r) _ n (times-owes r h n)))

  -- so many parts, and none behind them
  pub owed_all : {A : Type 0} (r : Reader A) (k : ℕ) → Owes r k → (p : ℕ) (a : A) (q : ℕ) → r (tokens gs vs) p ≡ got a q → Owed gs vs p k q
  owed_all r k h p a q g = change (omega arith) (h.owing p a q g 0 q paid)
