-- The first when, merge, or name that passes a test in an expression is the first among its tokens. Assumes nothing.
use mathlib.Core.Path.{◌≡◌, refl, sym, ◌∙◌, ap, ap₂, subst}
use mathlib.Core.List.{List, [], ◌∷◌}
use mathlib.Core.Option.{Option, none, some}
use mathlib.Core.Bool.{Bool, true, false, ◌||◌}
use Prim.Native.Nat.{ℕ, zero, suc, ◌+◌, ◌<◌, ◌≤◌}
use native.Mathlib.Omega.{arith}
use lib.Dec.{eqb}
use native.Mathlib.Numerals.{add-one}
use lib.ListN.{length, get_or, take, drop}
use Rattle.std.specs.List.{list_any}
use Rattle.std.proofs.lemmas.List.{get_or-take}
use borrow.Author.Tests.{eqb-true}
use Rattle.definitions.specs.declared.Refusal.{Refusal}
use Rattle.definitions.specs.declared.Literal.{Literal}
use Rattle.definitions.specs.declared.TypeToken.{TypeToken}
use Rattle.definitions.specs.declared.ExprToken.{ExprToken}
use Rattle.definitions.specs.Lists.{choose, any}
use Rattle.definitions.specs.Tokens.{given, type_token_of, expr_token_of}
use Rattle.definitions.specs.Bytes.{tokens}
use Rattle.definitions.specs.Tree.{Ty, Head, Expr, Exprs, Equation}
use Rattle.definitions.specs.Reading.{got, rejected, Reader, ◌>>=◌, return, token, limited, times}
use Rattle.definitions.specs.Grammar.{tagged, counted, count, high, name, no_array, short_enough, typed, ty, append, exprs, fields, constant, iteration, form, expr, equation, most_counted, deepest_type}
use Rattle.definitions.specs.InferClocks.{samples, sampled}
use Rattle.grammar.proofs.Laws.{after-got, tokens-length}
use Rattle.grammar.proofs.Longer.{token-got, counted-grows, tagged-grows}
use Rattle.grammar.proofs.Got.{limited-got, token-value, tagged-value, counted-value}
use Rattle.shapes.proofs.Decoded.{Maybe}
use Rattle.layout.specs.Owed.{follows}
use Rattle.layout.specs.Marks.{is_sample, Mark, named, sampling, mark_of, nowhere, first, there, Marks, unmarked, marked}
use Rattle.layout.proofs.Tags.{of-expr, of-type, mark-of, expr-tags, type-tags, said}

-- the first mark in an expression, by those of names
module _ (of : ℕ → Option Mark) where
  unfoldable mutual
    pub bears : Expr → Option Mark
    bears (Expr.const l w) = none
    bears (Expr.var x) = of x
    bears (Expr.op h es) = borne es
    bears (Expr.pre e) = bears e
    bears (Expr.arrow a b) = first (bears a) (bears b)
    bears (Expr.call f es) = borne es
    bears (Expr.when k e) = some sampling
    bears (Expr.merge x a b) = some sampling

    pub borne : Exprs → Option Mark
    borne Exprs.end = none
    borne (Exprs.and e es) = first (bears e) (borne es)

there-first : (a b : Option Mark) → there (first a b) ≡ there a || there b
there-first none b = refl
there-first (some m) b = refl

-- where no name has one, a node uses clocks by it
mutual
  unfolding bears samples

  bears-samples : (e : Expr) → there (bears (λ x. none) e) ≡ samples e
  bears-samples (Expr.const l w) = refl
  bears-samples (Expr.var x) = refl
  bears-samples (Expr.op h es) = borne-sampled es
  bears-samples (Expr.pre e) = bears-samples e
  bears-samples (Expr.arrow a b) = there-first (bears (λ x. none) a) (bears (λ x. none) b) ∙ ap₂ ◌||◌ (bears-samples a) (bears-samples b)
  bears-samples (Expr.call f es) = borne-sampled es
  bears-samples (Expr.when k e) = refl
  bears-samples (Expr.merge x a b) = refl

  borne-sampled : (es : Exprs) → there (borne (λ x. none) es) ≡ sampled es
  borne-sampled Exprs.end = refl
  borne-sampled (Exprs.and e es) = there-first (bears (λ x. none) e) (borne (λ x. none) es) ∙ ap₂ ◌||◌ (bears-samples e) (borne-sampled es)

any-samples : (l : List Equation) → any (λ e. there (bears (λ x. none) e.right)) l ≡ any (λ e. samples e.right) l
any-samples [] = refl
any-samples (e ∷ l) = ap₂ ◌||◌ (bears-samples e.right) (any-samples l)

-- where no name has one, a mark is known by its tag
pub sample-mark : (tag v : ℕ) → mark_of nowhere tag v ≡ given (is_sample tag) sampling
unfolding mark_of
sample-mark tag v = go (eqb tag 54) refl
  where
    go : (b : Bool) → eqb tag 54 ≡ b → choose b none (given (is_sample tag) sampling) ≡ given (is_sample tag) sampling
    go true e = rw (eqb-true tag 54 e)
    go false e = refl

first-none : (b : Option Mark) → first b none ≡ b
first-none none = refl
first-none (some m) = refl

first-assoc : (a b c : Option Mark) → first (first a b) c ≡ first a (first b c)
first-assoc none b c = refl
first-assoc (some m) b c = refl

-- one stretch, then another
joined : {test : ℕ → Bool} {gs vs : List ℕ} {p m q : ℕ} {a b : Option Mark} → Marks test gs vs p m a → Marks test gs vs m q b → Marks test gs vs p q (first a b)
joined unmarked k = k
joined {test} {gs} {vs} {p} {m} {q} {a} {b} (marked {b = c} h) k = subst (λ (x : Option Mark). Marks test gs vs p q x) (sym (first-assoc (mark_of test (get_or gs p 0) (get_or vs p 0)) c b)) (marked (joined h k))

-- a stretch goes on
marks-on : {test : ℕ → Bool} {gs vs : List ℕ} {p q : ℕ} {b : Option Mark} → Marks test gs vs p q b → p ≤ q
marks-on unmarked = omega arith
marks-on (marked h) = let f = marks-on h in omega arith

-- no token is left, or one is taken off
pub marks-none : {test : ℕ → Bool} {gs vs : List ℕ} {p q : ℕ} {b : Option Mark} → Marks test gs vs p q b → q ≤ p → b ≡ none
marks-none unmarked l = refl
marks-none (marked h) l = absurd (let f = marks-on h in omega arith)

pub marks-found : {test : ℕ → Bool} {gs vs : List ℕ} {p q : ℕ} {b : Option Mark} (m : Mark) → Marks test gs vs p q b → p < q → mark_of test (get_or gs p 0) (get_or vs p 0) ≡ some m → b ≡ some m
marks-found m unmarked l e = absurd (omega arith)
marks-found {test} {gs} {vs} {p} {q} {b} m (marked {b = c} h) l e = ap (λ (x : Option Mark). first x c) e

pub marks-past : {test : ℕ → Bool} {gs vs : List ℕ} {p q : ℕ} {b : Option Mark} → Marks test gs vs p q b → p < q → mark_of test (get_or gs p 0) (get_or vs p 0) ≡ none → Marks test gs vs (p + 1) q b
marks-past unmarked l e = absurd (omega arith)
marks-past {test} {gs} {vs} {p} {q} {b} (marked {b = c} h) l e = subst (λ (x : Option Mark). Marks test gs vs (p + 1) q x) (sym (ap (λ (x : Option Mark). first x c) e)) h

-- a test of what stands at a place, and behind it
any-drop : (f : ℕ → Bool) → f 0 ≡ false → (p : ℕ) (l : List ℕ) → list_any f (drop p l) ≡ (f (get_or l p 0) || list_any f (drop (suc p) l))
any-drop f e zero [] = rw e refl
any-drop f e (suc p) [] = rw e refl
any-drop f e zero (x ∷ l) = refl
any-drop f e (suc p) (x ∷ l) = any-drop f e p l

pub given-there : (b : Bool) (m : Mark) → there (given b m) ≡ b
given-there true m = refl
given-there false m = refl

none-left : (p : ℕ) (l : List ℕ) → drop p (take p l) ≡ []
none-left zero l = refl
none-left (suc p) [] = refl
none-left (suc p) (x ∷ l) = none-left p l

-- where no name has one, there is a mark where one of the tags of the stretch is that of a when or a merge
pub marks-any : {gs vs : List ℕ} {p q : ℕ} {b : Option Mark} → Marks nowhere gs vs p q b → there b ≡ list_any is_sample (drop p (take q gs))
unfolding is_sample
marks-any {gs} {vs} {p} unmarked = rw (none-left p gs)
marks-any {gs} {vs} {p} {q} {b} (marked {b = c} h) =
    let on = marks-on h in
    let t = get_or gs p 0 in
    there-first (mark_of nowhere t (get_or vs p 0)) c
    ∙ ap₂ ◌||◌ (ap there (sample-mark t (get_or vs p 0)) ∙ given-there (is_sample t) sampling ∙ ap is_sample (sym (get_or-take q gs p 0 (omega arith)))) (marks-any h ∙ ap (λ (k : ℕ). list_any is_sample (drop k (take q gs))) (add-one p))
    ∙ sym (any-drop is_sample refl p (take q gs))

module _ (test : ℕ → Bool) (gs vs : List ℕ) (same : length vs ≡ length gs) where
  -- what is said of a reading's tokens
  record Shows {A : Type 0} (r : Reader A) (Q : A → Option Mark → Type 0) : Type 0 where
    showing : (p : ℕ) (a : A) (q : ℕ) → r (tokens gs vs) p ≡ got a q → (b : Option Mark) × Marks test gs vs p q b × Q a b

  -- nothing but counts, names and types
  abbrev Quiet : {A : Type 0} → Reader A → Type 0
  Quiet r = Shows r (λ a b. b ≡ none)

  one-mark : (p : ℕ) → Marks test gs vs p (p + 1) (mark_of test (get_or gs p 0) (get_or vs p 0))
  one-mark p = subst (λ (x : Option Mark). Marks test gs vs p (p + 1) x) (first-none (mark_of test (get_or gs p 0) (get_or vs p 0))) (marked unmarked)

  marked-here : {A : Type 0} (r : Reader A) (Q : A → Option Mark → Type 0) → ((p : ℕ) (a : A) (q : ℕ) → r (tokens gs vs) p ≡ got a q → (q ≡ p + 1) × Q a (mark_of test (get_or gs p 0) (get_or vs p 0))) → Shows r Q
  marked-here r Q h = record { showing = λ p a q g. let x = h p a q g in (mark_of test (get_or gs p 0) (get_or vs p 0), subst (λ (z : ℕ). Marks test gs vs p z (mark_of test (get_or gs p 0) (get_or vs p 0))) (sym x.0) (one-mark p), x.1) }

  token-shows : {A : Type 0} (f : ℕ → ℕ → Option A) (parts : A → ℕ) (mark : A → Option Mark) → ((tag v : ℕ) → Maybe (λ a. (follows tag v ≡ parts a) × (mark_of test tag v ≡ mark a)) (f tag v)) → Shows (token f) (λ a b. b ≡ mark a)
  token-shows f parts mark h = marked-here (token f) _ (λ p a q g.
      let b : p < length gs = omega (arith, (token-got f (tokens gs vs) p a q g).1, tokens-length gs vs same) in
      let t = token-value gs vs same p f a q b g in
      (t.1, (said (λ x. (follows (get_or gs p 0) (get_or vs p 0) ≡ parts x) × (mark_of test (get_or gs p 0) (get_or vs p 0) ≡ mark x)) _ a (h (get_or gs p 0) (get_or vs p 0)) t.0).1))

  limited-shows : {A : Type 0} (within : A → Bool) (r : Reader A) (Q : A → Option Mark → Type 0) → Shows r Q → Shows (limited within r) Q
  limited-shows within r Q h = record { showing = λ p a q g. h.showing p a q (limited-got within r (tokens gs vs) p a q g).0 }

  tagged-quiet : (tag bound : ℕ) → ((v : ℕ) → mark_of test tag v ≡ none) → Quiet (tagged tag bound)
  tagged-quiet tag bound e = marked-here (tagged tag bound) _ (λ p x q g.
      let w = tagged-grows tag bound (tokens gs vs) p x q g in
      let b : p < length gs = omega (arith, w.0, w.1, tokens-length gs vs same) in
      let v = tagged-value gs vs same p tag bound x q b g in
      (v.3, ap (λ (t : ℕ). mark_of test t (get_or vs p 0)) v.1 ∙ e (get_or vs p 0)))

  counted-quiet : (low most : ℕ) → Quiet (counted 3 low most)
  unfolding mark_of
  counted-quiet low most = marked-here (counted 3 low most) _ (λ p n q g.
      let w = counted-grows 3 low most (tokens gs vs) p n q g in
      let b : p < length gs = omega (arith, w.0, w.1, tokens-length gs vs same) in
      let v = counted-value gs vs same p 3 low most n q b g in
      (v.2, ap (λ (t : ℕ). mark_of test t (get_or vs p 0)) v.1))

  count-quiet : (most : ℕ) → Quiet (count most)
  unfolding count
  count-quiet most = counted-quiet 0 most

  high-quiet : Quiet high
  unfolding high mark_of
  high-quiet = tagged-quiet 5 _ (λ v. refl)

  name-quiet : (M : ℕ) → Quiet (name M)
  unfolding name mark_of
  name-quiet M = tagged-quiet 4 M (λ v. refl)

  -- readings one after another
  shows-return : {A : Type 0} (Q : A → Option Mark → Type 0) (a : A) → Q a none → Shows (return a) Q
  shows-return Q a h = record { showing = λ p b q g. let e : p ≡ q = cc in let i : a ≡ b = cc in (none, subst (λ (x : ℕ). Marks test gs vs p x none) e unmarked, subst (λ (x : _). Q x none) i h) }

  shows-rejected : {A : Type 0} (t : ℕ → Refusal) (Q : A → Option Mark → Type 0) → Shows (λ ts p. rejected (t p)) Q
  shows-rejected t Q = record { showing = λ p b q g. absurd cc }

  shows_then : {A B : Type 0} (r : Reader A) (f : A → Reader B) (P : A → Option Mark → Type 0) (Q : B → Option Mark → Type 0) → Shows r P → ((a : A) (x : Option Mark) → P a x → Shows (f a) (λ b y. Q b (first x y))) → Shows (r >>= f) Q
  shows_then r f P Q h i = record {
    showing = λ p b q g.
        let x = after-got (r (tokens gs vs) p) _ b q g in
        let u = h.showing p x.0 x.1 x.2 in
        let v = (i x.0 u.0 u.2).showing x.1 b q x.3 in
        (first u.0 v.0, joined u.1 v.1, v.2);
  }

  -- a quiet reading first
  quiet_then : {A B : Type 0} (r : Reader A) (f : A → Reader B) (Q : B → Option Mark → Type 0) → Quiet r → ((a : A) → Shows (f a) Q) → Shows (r >>= f) Q
  quiet_then r f Q h i = shows_then r f _ Q h (λ a x e. subst (λ (z : Option Mark). Shows (f a) (λ b y. Q b (first z y))) (sym e) (i a))

  -- a reading and what is made of it
  shows-made : {A B : Type 0} (r : Reader A) (f : A → B) (P : A → Option Mark → Type 0) (Q : B → Option Mark → Type 0) → Shows r P → ((a : A) (x : Option Mark) → P a x → Q (f a) x) → Shows (r >>= λ a. return (f a)) Q
  shows-made r f P Q h i = shows_then r _ P Q h (λ a x e. shows-return _ (f a) (subst (λ (z : Option Mark). Q (f a) z) (sym (first-none x)) (i a x e)))

  -- types
  typed-quiet : (t : TypeToken) (r : Reader Ty) → Quiet r → Quiet (typed t r)
  typed-quiet (TypeToken.Basic b) r h = shows-return _ _ refl
  typed-quiet (TypeToken.Array n) r h = shows-made r _ _ _ h (λ a x e. e)
  typed-quiet (TypeToken.Named x) r h = shows-return _ _ refl

  -- M is the number of names, whose marks agree
  module _ (M : ℕ) (of : ℕ → Option Mark) (agree : (x : ℕ) → x < M → given (test x) (named x) ≡ of x) where
    type-quiet : (d : ℕ) → Quiet (ty M d)
    unfolding ty
    type-quiet zero = quiet_then _ _ _ (limited-shows no_array _ _ (token-shows (type_token_of M) of-type (λ t. none) (type-tags test M))) (λ t. typed-quiet t _ (shows-rejected Refusal.Limit _))
    type-quiet (suc d) = quiet_then _ _ _ (limited-shows short_enough _ _ (token-shows (type_token_of M) of-type (λ t. none) (type-tags test M))) (λ t. typed-quiet t (ty M d) (type-quiet d))

    -- expressions, r reading an operand
    module _ (r : Reader Expr) (h : Shows r (λ e b. b ≡ bears of e)) where
      exprs-shows : (n : ℕ) → Shows (exprs n r) (λ es b. b ≡ borne of es)
      unfolding exprs bears
      exprs-shows zero = shows-return _ _ refl
      exprs-shows (suc n) = shows_then r _ _ _ h (λ e x i. shows-made (exprs n r) _ _ _ (exprs-shows n) (λ es y j. ap₂ first i j))

      fields-shows : (n : ℕ) → Shows (fields M n r) (λ fs b. b ≡ borne of fs.1)
      unfolding fields bears
      fields-shows zero = shows-return _ _ refl
      fields-shows (suc n) = quiet_then (name M) _ _ (name-quiet M) (λ f. shows_then r _ _ _ h (λ e x i. shows-made (fields M n r) _ _ _ (fields-shows n) (λ fs y j. ap₂ first i j)))

      constant-shows : (l : Literal) → Shows (constant M l) (λ e b. b ≡ bears of e)
      unfolding constant bears
      constant-shows (Literal.Bool v) = shows-return _ _ refl
      constant-shows (Literal.Int v) = shows-made high _ _ _ high-quiet (λ w x e. e)
      constant-shows (Literal.Float v) = shows-made high _ _ _ high-quiet (λ w x e. e)
      constant-shows (Literal.Char v) = shows-return _ _ refl

      computed-shows : (H : Exprs → Expr) → ((es : Exprs) → borne of es ≡ bears of (H es)) → (n : ℕ) → Shows (exprs n r >>= λ es. return (H es)) (λ e b. b ≡ bears of e)
      computed-shows H s n = shows-made (exprs n r) H _ _ (exprs-shows n) (λ es x e. e ∙ s es)

      items-shows : (H : Exprs → Expr) → ((es : Exprs) → borne of es ≡ bears of (H es)) → Shows (count most_counted >>= λ n. exprs n r >>= λ es. return (H es)) (λ e b. b ≡ bears of e)
      items-shows H s = quiet_then (count most_counted) _ _ (count-quiet most_counted) (λ n. computed-shows H s n)

      borne-append : (a b : Exprs) → borne of (append a b) ≡ first (borne of a) (borne of b)
      unfolding bears
      borne-append Exprs.end b = refl
      borne-append (Exprs.and e a) b = ap (λ (x : Option Mark). first (bears of e) x) (borne-append a b) ∙ sym (first-assoc (bears of e) (borne of a) (borne of b))

      iteration-shows : (H : ℕ → Head) → Shows (iteration M H r) (λ e b. b ≡ bears of e)
      unfolding bears
      iteration-shows H = quiet_then (counted 3 0 1) _ _ (counted-quiet 0 1) (λ k. shows_then (exprs k r) _ _ _ (exprs-shows k) (λ s x i.
          quiet_then (count most_counted) _ _ (count-quiet most_counted) (λ n. shows-made (exprs n r) _ _ _ (exprs-shows n) (λ es y j. ap₂ first i j ∙ sym (borne-append s es)))))

      one-shows : (H : Expr → Expr) → ((a : Expr) → bears of a ≡ bears of (H a)) → Shows (r >>= λ a. return (H a)) (λ e b. b ≡ bears of e)
      one-shows H s = shows-made r H _ _ h (λ a x e. e ∙ s a)

      -- behind the token of a when or a merge
      behind-sample : (H : Expr → Expr) → ((a : Expr) → some sampling ≡ bears of (H a)) → Shows (r >>= λ a. return (H a)) (λ e b. some sampling ≡ bears of e)
      behind-sample H s = shows-made r H _ _ h (λ a x e. s a)

      form-shows : (t : ExprToken) → Shows (form M t r) (λ e b. first (mark-of of t) b ≡ bears of e)
      unfolding form bears
      form-shows (ExprToken.Const l) = constant-shows l
      form-shows (ExprToken.Var x) = shows-return _ _ (first-none (of x))
      form-shows (ExprToken.Unary o) = computed-shows _ (λ es. refl) 1
      form-shows (ExprToken.Binary o) = computed-shows _ (λ es. refl) 2
      form-shows ExprToken.If = computed-shows _ (λ es. refl) 3
      form-shows ExprToken.Pre = one-shows _ (λ a. refl)
      form-shows ExprToken.Arrow = shows_then r _ _ _ h (λ a x i. shows-made r _ _ _ h (λ b y j. ap₂ first i j))
      form-shows (ExprToken.Call f) = items-shows _ (λ es. refl)
      form-shows (ExprToken.Field x) = computed-shows _ (λ es. refl) 1
      form-shows ExprToken.Index = computed-shows _ (λ es. refl) 2
      form-shows ExprToken.Tuple = items-shows _ (λ es. refl)
      form-shows ExprToken.Array = items-shows _ (λ es. refl)
      form-shows (ExprToken.Struct x) = quiet_then (count most_counted) _ _ (count-quiet most_counted) (λ n. shows-made (fields M n r) _ _ _ (fields-shows n) (λ fs y e. e))
      form-shows ExprToken.Cast = quiet_then (ty M deepest_type) _ _ (type-quiet deepest_type) (λ a. computed-shows _ (λ es. refl) 1)
      form-shows (ExprToken.When x) = behind-sample _ (λ a. refl)
      form-shows (ExprToken.WhenNot x) = behind-sample _ (λ a. refl)
      form-shows (ExprToken.Merge x) = shows_then r _ _ _ h (λ a y i. shows-made r _ _ _ h (λ b z j. refl))
      form-shows (ExprToken.Map f) = iteration-shows _
      form-shows (ExprToken.Fold f) = iteration-shows _

    head-then : (r : Reader ExprToken) → Shows r (λ t b. b ≡ mark-of of t) → (s : Reader Expr) → Shows s (λ e b. b ≡ bears of e) → Shows (r >>= λ t. form M t s) (λ e b. b ≡ bears of e)
    head-then r h s k = shows_then r _ _ _ h (λ t x e. subst (λ (z : Option Mark). Shows (form M t s) (λ b y. first z y ≡ bears of b)) (sym e) (form-shows s k t))

    expr-shows : (d : ℕ) → Shows (expr M d) (λ e b. b ≡ bears of e)
    unfolding expr
    expr-shows zero = head-then _ (limited-shows (λ h. false) _ _ (token-shows (expr_token_of M) of-expr (mark-of of) (expr-tags test of M agree))) _ (shows-rejected Refusal.Limit _)
    expr-shows (suc d) = head-then _ (token-shows (expr_token_of M) of-expr (mark-of of) (expr-tags test of M agree)) (expr M d) (expr-shows d)

    times-quiet : {A : Type 0} (r : Reader A) → Quiet r → (n : ℕ) → Quiet (times n r)
    unfolding times
    times-quiet r h zero = shows-return _ _ refl
    times-quiet r h (suc n) = quiet_then r _ _ h (λ a. shows-made (times n r) _ _ _ (times-quiet r h n) (λ l x e. e))

    equation-shows : Shows (equation M) (λ e b. b ≡ bears of e.right)
    unfolding equation
    equation-shows = quiet_then (counted 3 1 8) _ _ (counted-quiet 1 8) (λ n. quiet_then (times n (name M)) _ _ (times-quiet (name M) (name-quiet M) n) (λ ls. shows-made (expr M 32) _ _ _ (expr-shows 32) (λ e x i. i)))

    equations-shows : (n : ℕ) → Shows (times n (equation M)) (λ l b. there b ≡ any (λ e. there (bears of e.right)) l)
    unfolding times
    equations-shows zero = shows-return _ _ refl
    equations-shows (suc n) = shows_then (equation M) _ _ _ equation-shows (λ e x i. shows-made (times n (equation M)) _ _ _ (equations-shows n) (λ l y j. there-first x y ∙ ap₂ ◌||◌ (ap there i) j))

    -- an expression's tokens say whether it bears one
    pub expr-marks : (d p : ℕ) (e : Expr) (q : ℕ) → expr M d (tokens gs vs) p ≡ got e q → Marks test gs vs p q (bears of e)
    expr-marks d p e q g = let x = (expr-shows d).showing p e q g in subst (λ (b : Option Mark). Marks test gs vs p q b) x.2 x.1

-- the equations' tokens say whether one uses clocks
pub equations-marks : (gs vs : List ℕ) → length vs ≡ length gs → (M n p : ℕ) (l : List Equation) (q r : ℕ) → times n (equation M) (tokens gs vs) p ≡ got l q → r ≡ q → (b : Option Mark) × Marks nowhere gs vs p r b × (there b ≡ any (λ e. samples e.right) l)
equations-marks gs vs same M n p l q r g i =
    let x = (equations-shows nowhere gs vs same M (λ y. none) (λ y j. refl) n).showing p l q g in
    (x.0, rw i x.1, x.2 ∙ any-samples l)
