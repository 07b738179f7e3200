-- A source equation holds where its rewriting does: what names keep between the ticks of their clock, and each equation.
use mathlib.Core.Path.{◌≡◌, refl, sym, ap, ap₂, ◌∙◌, subst, subst⁻¹}
use mathlib.Core.Bool.{true, false, true≢false}
use mathlib.Core.List.Memᴰ
use mathlib.Core.List.{List, [], ◌∷◌, ◌++◌, map, Memᴰ}
use mathlib.Core.Option.{Option, none, some, some-injective}
use Prim.Native.Nat.{ℕ, suc, ◌<◌}
use native.Mathlib.Omega.{arith}
use lib.ListN.{length}
use Rattle.definitions.specs.declared.Condition.{Condition}
use Rattle.definitions.specs.Tree.{TypeDef, Expr, Exprs, Equation, Node}
use Rattle.definitions.specs.Clock.{Clock, base, ◌↓◌, is_base}
use Rattle.definitions.specs.InferClocks.{Clocks, clock_of, formed, natural, Clocked, or_base}
use Rattle.definitions.specs.Declock.{State, Hold, done, clock_place, Stem, ck, first, hold, rewrite, rewrites, right_side, old_equations, if_of}
use Rattle.shapes.proofs.Added.{has}
use Rattle.runs.specs.Callees.{is_declared, is_operator, Callees}
use Rattle.runs.specs.Run.{Meaning, last, Env, Unset, in₀, in₁, on, called_at, value, values, Takes, Holds}
use Rattle.runs.proofs.Ticks.{last-true, kept}
use Rattle.runs.proofs.Facts.{Goes}
use Rattle.runs.proofs.Parts.{Each, Eachs}
use Rattle.shapes.proofs.Yields.{Yields, yields, yields-after, yields-map, yields-all, yielded, done-after}
use Rattle.runs.proofs.Growth.{Leads, leads-trans, leads-flag, with_flag, flag_name, call_on-yields, single-yields, OfClock, Reads, Step, old_equations-steps}
use Rattle.runs.proofs.Checked.{OkName, Ok, OldParts, Fits}
use Rattle.shapes.proofs.Formed.{formed-eq}
use Rattle.runs.proofs.Inferred.{OnNaturals}
use Rattle.runs.proofs.Expressions.{one, Callable, Flags, Firsts, under-flag, Same, flag_true, call_gated, main, mains}
use Rattle.runs.proofs.Settling.{Settled, SettledExpr, SettledExprs, settled-natural}
use Rattle.runs.proofs.Holding.{on_base, OneHolds, EachHolds, each_from, takes_at, takes_moved}
use Rattle.runs.proofs.Several.{CallIfSeveral, gate-keeps, GatedCall, several-gated}

-- an equation of the source with its rewriting, which holds, and the states around it
module _ {Val : Type 0} (types : List TypeDef) (nodes : List Node) (new : Stem → ℕ → ℕ) (node : Node) (M : Meaning Val) (C' : Callees) (P : ℕ → Type 0) (S : State) (τ : Env Val) (n : ℕ) where
  abbrev condact : ℕ
  condact = C'.condact

  pub record Found (e : Clocked) : Type 0 where
    pub number : ℕ
    pub before : State
    pub next : State
    pub right : Expr
    pub is : right_side types nodes new condact node number e.clock e.equation.left e.equation.right before ≡ done right next
    pub leads : Leads next S
    pub unset : Unset Val
    pub holds : Holds M C' τ n base (record { left = e.equation.left; right = right }) unset

  pub found : (i : ℕ) (es : List Clocked) (s : State) (rs : List Equation) → ((e : Clocked) → Memᴰ e es → OfClock P e.clock × Each (Reads P) e.equation.right)
      → old_equations types nodes new condact node i es s ≡ done rs S → EachHolds M C' τ n (map on_base rs) → (e : Clocked) → Memᴰ e es → Found e
  unfolding old_equations EachHolds
  found i [] s rs known r h e m = absurd (Memᴰ.not-nil m)
  found i (d ∷ ds) s rs known r h e m =
      let u = done-after (right_side types nodes new condact node i d.clock d.equation.left d.equation.right s) _ rs S r in
      let v = done-after (old_equations types nodes new condact node (suc i) ds u.1) _ rs S u.3 in
      let all : List Equation = record { left = d.equation.left; right = u.0 } ∷ v.0 in
      let p : done all v.1 ≡ done rs S = v.3 in
      let same : rs ≡ all = cc in
      let end : v.1 ≡ S = cc in
      let rest : old_equations types nodes new condact node (suc i) ds u.1 ≡ done v.0 S = v.2 ∙ ap (done v.0) end in
      let h' : EachHolds M C' τ n (map on_base all) = rw same at h in
      let st : Step P u.1 S = yielded v.0 S rest (old_equations-steps types nodes new condact node P (suc i) ds u.1 (λ f k. known f (Memᴰ.tail k))) in
      let here : Found d = record { number = i; before = s; next = u.1; right = u.0; is = u.2; leads = st.0; unset = h'.0.0; holds = h'.0.1 } in
      at here (λ k. found (suc i) ds u.1 v.0 (λ f j. known f (Memᴰ.tail j)) rest h'.1 e k) m
    where
      at : Found d → (Memᴰ e ds → Found e) → Memᴰ e (d ∷ ds) → Found e
      at f g (Memᴰ.head q) = subst⁻¹ Found q f
      at f g (Memᴰ.tail k) = g k

-- the equations of a node, σ being the source's environment, τ the rewritten node's, S what rewriting needed.
-- P holds of the names that equations and their clocks read; on those that are `Old` σ and τ agree.
module _ {Val : Type 0} (types : List TypeDef) (nodes : List Node) (new : Stem → ℕ → ℕ) (node : Node) (M : Meaning Val) (C C' : Callees)
    (operators : (f : ℕ) → C.operators f ≡ C'.operators f) (kinds : (f : ℕ) → C.operators f ≡ is_operator nodes f)
    (clocks : Clocks) (P Old : ℕ → Type 0) (S : State) (σ τ : Env Val) (n : ℕ) (es : List Clocked)
    (agree : (x : ℕ) → Old x → (t : ℕ) → σ x t ≡ τ x t)
    (flagged : (c : Clock) → has c S.flags ≡ true → Flags M σ τ n (new ck (clock_place c S.flags)) c)
    (firsted : (c : Clock) → has c S.firsts ≡ true → Firsts M σ τ n (new first (clock_place c S.firsts)) c)
    (held : (l : List Hold) (h : Hold) → Goes (l ++ (h ∷ [])) S.holds → (α : Unset Val) × Holds M C' τ n base (one (new hold (length l)) h.right) α)
    (steady : (x : ℕ) → Old x → is_declared node x ≡ false → (t s : ℕ) → τ x t ≡ τ x s)
    (unclocked : (x : ℕ) → is_declared node x ≡ false → clock_of clocks x ≡ none)
    (naturals : OnNaturals clocks node.equations es)
    (reads_old : (e : Clocked) → Memᴰ e es → Each (OldParts clocks (Callable C C') Old) e.equation.right)
    (okay : (e : Clocked) → Memᴰ e es → Ok clocks (Callable C C') Old e.equation.right e.clock)
    (lefts-old : (e : Clocked) → Memᴰ e es → (x : ℕ) → Memᴰ x e.equation.left → Old x)
    (lefts-fit : (e : Clocked) → Memᴰ e es → (x : ℕ) → Memᴰ x e.equation.left → Fits clocks x e.clock)
    (several : (e : Clocked) → Memᴰ e es → is_base e.clock ≡ false → CallIfSeveral e.equation.left e.equation.right)
    (defining : (x : ℕ) (c : Clock) (k : Condition) → clock_of clocks x ≡ some (c ↓ k) → (e : Clocked) × Memᴰ e es × Memᴰ x e.equation.left)
    (settled : (x : ℕ) → Old x → clock_of clocks x ≡ none → Settled C node clocks x)
    (find : (e : Clocked) → Memᴰ e es → Found types nodes new node M C' P S τ n e)
  where
    open M use {is_true, form, function}

    abbrev here : ℕ
    here = C'.condact

    -- an expression of one value throughout
    abbrev Const : Expr → State → Type 0
    Const e s' = (α : Unset Val) (t s : ℕ) → t < n → s < n → value M C' e τ α base t ≡ value M C' e τ α base s

    abbrev Consts : Exprs → State → Type 0
    Consts es s' = (α : Unset Val) (t s : ℕ) → t < n → s < n → values M C' es τ α base t ≡ values M C' es τ α base s

    -- the left names of a settled right side
    left_const : (e : Clocked) → Memᴰ e es → natural clocks e.equation.right ≡ formed none → ((i : ℕ) (s : State) → Yields Const (rewrite types nodes new here node i base e.equation.right s))
        → (x : ℕ) → Memᴰ x e.equation.left → (t s : ℕ) → t < n → s < n → τ x t ≡ τ x s
    unfolding Holds right_side
    left_const e m nat y x j t s l u =
        let f = find e m in
        let o = naturals.each e m in
        let b : e.clock ≡ base = o.2 ∙ ap or_base (formed-eq o.0 none (sym o.1 ∙ nat)) in
        let is : right_side types nodes new here node f.number base e.equation.left e.equation.right f.before ≡ done f.right f.next
        = subst (λ (c : Clock). right_side types nodes new here node f.number c e.equation.left e.equation.right f.before ≡ done f.right f.next) b f.is in
        let q : Const f.right f.next = yielded f.right f.next is (right f.number f.before) in
        let r = takes_at M τ e.equation.left x j in
        r.1 t _ (f.holds t l (base_on t)) ∙ (ap r.0 (q f.unset t s l u) ∙ sym (r.1 s _ (f.holds s u (base_on s))))
      where
        base_on : (t : ℕ) → on M τ base t ≡ true
        base_on t = refl

        right : (i : ℕ) (s : State) → Yields Const (right_side types nodes new here node i base e.equation.left e.equation.right s)
        right i s = yields-after _ (y i s) (λ f s₁ p. yields p)

    -- and so of the equation that defines a name, wherever it stands
    defined_const : (x : ℕ) (e : Equation) → Memᴰ e node.equations → Memᴰ x e.left
        → (Each (OldParts clocks (Callable C C') Old) e.right → (i : ℕ) (s : State) → Yields Const (rewrite types nodes new here node i base e.right s))
        → natural clocks e.right ≡ formed none → (t s : ℕ) → t < n → s < n → τ x t ≡ τ x s
    defined_const x e m j y nat t s l r =
        let f = naturals.to e m in
        let g : Clocked = f.0 in
        let old : Each (OldParts clocks (Callable C C') Old) e.right = subst (λ (z : Equation). Each (OldParts clocks (Callable C C') Old) z.right) f.2 (reads_old g f.1) in
        left_const g f.1 (subst⁻¹ (λ (z : Equation). natural clocks z.right ≡ formed none) f.2 nat)
        (subst⁻¹ (λ (z : Equation). (i : ℕ) (s : State) → Yields Const (rewrite types nodes new here node i base z.right s)) f.2 (y old))
        x (subst⁻¹ (λ (z : Equation). Memᴰ x z.left) f.2 j) t s l r

    -- a settled name has one value
    mutual
      unfolding value values rewrite Each called_at

      name_const : (x : ℕ) → Settled C node clocks x → Old x → (t s : ℕ) → t < n → s < n → τ x t ≡ τ x s
      name_const x (Settled.undeclared u) o t s l r = steady _ o u t s
      name_const x (Settled.defined {x = y} e m j c g) o t s l r = defined_const y e m j (λ old i s₁. expr_const e.right g old i s₁) (settled-natural C node clocks unclocked e.right g) t s l r

      expr_const : (e : Expr) → SettledExpr C node clocks e → Each (OldParts clocks (Callable C C') Old) e → (i : ℕ) (s : State) → Yields Const (rewrite types nodes new here node i base e s)
      expr_const e SettledExpr.const o i s = yields (λ α t s l u. refl)
      expr_const e (SettledExpr.var {x} g) o i s = yields (λ α t s l u. name_const x g o t s l u)
      expr_const e (SettledExpr.op {h} {es = ds} g) o i s = yields-after _ (exprs_const ds g o.1 i s) (λ fs s₁ p. yields (λ α t s l u. ap (form h) (p α t s l u)))
      expr_const e (SettledExpr.call {f} {es = ds} nf g) o i s = yields-after _ (exprs_const ds g o.1 i s) (λ fs s₁ p.
          call_on-yields types nodes new here node i base f fs s₁ (λ b α t s l u. rw (o.0.1, sym (operators f) ∙ nf) (ap (function f) (p α t s l u))) (λ b α t s l u. rw (o.0.1, sym (operators f) ∙ nf) (ap (function f) (p α t s l u))) (λ b v ds. absurd (true≢false b)))

      exprs_const : (ds : Exprs) → SettledExprs C node clocks ds → Eachs (OldParts clocks (Callable C C') Old) ds → (i : ℕ) (s : State) → Yields Consts (rewrites types nodes new here node i base ds s)
      exprs_const ds SettledExprs.end o i s = yields (λ α t s l u. refl)
      exprs_const ds (SettledExprs.and {e} {es = fs} g gs) o i s = yields-after _ (expr_const e g o.0 i s) (λ f s₁ p. yields-after _ (exprs_const fs gs o.1 i s₁) (λ fs s₂ q.
          yields (λ α t s l u. ap₂ {C = List Val} (λ x xs. x ∷ xs) (p (in₀ α) t s l u) (q (in₁ α) t s l u))))

    -- a left name of an equation on a clock keeps its value where the clock is off, once it has been on
    abbrev LeftKeeps : Clock → List ℕ → Expr → State → Type 0
    LeftKeeps c xs r s' = Leads s' S → (β : Unset Val) → Holds M C' τ n base (record { left = xs; right = r }) β → (x : ℕ) → Memᴰ x xs
        → (t s : ℕ) → suc t < n → on M σ c (suc t) ≡ false → last (on M σ c) (suc t) ≡ some s → τ x (suc t) ≡ τ x t

    gated_keeps : (c : Clock) (xs : List ℕ) (f : ℕ) (i : ℕ) (r : Expr) (s : State) → is_base c ≡ false → GatedCall types nodes new here node i (λ es s. Unit {0}) c f r s → LeftKeeps c xs r s
    unfolding Holds
    gated_keeps c xs f i r s b d g β h x m t u l o q =
        let a : ℕ = flag_name new c d.before in
        let fl : Flags M σ τ n a c = flag_true M σ τ n new S flagged c d.before b (leads-trans (with_flag c d.before) s S d.leads g) in
        let v : ℕ → Val = λ t. value M C' r τ β base t in
        let same : v (suc t) ≡ v t = rw d.is (gate-keeps M C' σ τ n a c fl f d.arguments d.defaults β t u l o q) in
        let k = takes_at M τ xs x m in
        k.1 (suc t) (v (suc t)) (h (suc t) l (base_on (suc t))) ∙ (ap k.0 same ∙ sym (k.1 t (v t) (h t (omega arith) (base_on t))))
      where
        base_on : (t : ℕ) → on M τ base t ≡ true
        base_on t = refl

    single_keeps : (a : ℕ) (c : Clock) → Flags M σ τ n a c → (y : ℕ) (f d : Expr) (β : Unset Val) → Holds M C' τ n base (one y (if_of (Expr.var a) f (Expr.arrow d (Expr.pre (Expr.var y))))) β
        → (t : ℕ) → suc t < n → on M σ c (suc t) ≡ false → τ y (suc t) ≡ τ y t
    unfolding value on
    single_keeps a c fl y f d β h t l o = rw o at (under-flag M σ τ n C' a c fl y f (Expr.arrow d (Expr.pre (Expr.var y))) β h (suc t) l)

    left_keeps : (i : ℕ) (c : Clock) (k : Condition) (xs : List ℕ) (e : Expr) (s : State) → CallIfSeveral xs e → ((f : ℕ) (es : Exprs) → e ≡ Expr.call f es → Callable C C' f)
        → Yields (LeftKeeps (c ↓ k) xs) (right_side types nodes new here node i (c ↓ k) xs e s)
    unfolding right_side
    left_keeps i c k [] e s call nc = yields-all _ (λ r s' g β h x m. absurd (Memᴰ.not-nil m))
    left_keeps i c k (y ∷ []) e s call nc = yields-after {Q = λ f s₁. Unit {0}} _ (yields-all (rewrite types nodes new here node i (c ↓ k) e s) (λ f s₁. tt)) (λ f s₁ z.
        single-yields types nodes new here node i y (Expr.var (flag_name new (c ↓ k) s₁)) f (with_flag (c ↓ k) s₁) (λ d g β h x m t u l o q.
        rw (Memᴰ.eq_of_singleton m) (single_keeps (flag_name new (c ↓ k) s₁) (c ↓ k) (flag_true M σ τ n new S flagged (c ↓ k) s₁ refl g) y f d β h t l o)))
    left_keeps i c k (y ∷ z ∷ zs) e s call nc =
        subst⁻¹ (λ (e : Expr). Yields (LeftKeeps (c ↓ k) (y ∷ z ∷ zs)) (right_side types nodes new here node i (c ↓ k) (y ∷ z ∷ zs) e s)) call.2
        (yields-map (λ r s' d. gated_keeps (c ↓ k) (y ∷ z ∷ zs) call.0 i r s' refl d)
        (several-gated types nodes new here node i c k y z zs call.0 call.1 s (nc call.0 call.1 call.2).1 (yields-all _ (λ es s₁. tt))))

    -- a name on a clock keeps its value between the clock's ticks
    clocked_keeps : (x : ℕ) (c : Clock) (k : Condition) → clock_of clocks x ≡ some (c ↓ k) → (t s : ℕ) → t < n → last (on M σ (c ↓ k)) (suc t) ≡ some s → τ x t ≡ τ x s
    unfolding Ok
    clocked_keeps x c k q t s l u =
        let d = defining x c k q in
        let e : Clocked = d.0 in
        let w : c ↓ k ≡ e.clock = lefts-fit e d.1 x d.2 (c ↓ k) q in
        let b : is_base e.clock ≡ false = ap is_base (sym w) in
        let f = find e d.1 in
        let is : right_side types nodes new here node f.number (c ↓ k) e.equation.left e.equation.right f.before ≡ done f.right f.next
        = subst⁻¹ (λ (j : Clock). right_side types nodes new here node f.number j e.equation.left e.equation.right f.before ≡ done f.right f.next) w f.is in
        let callable : (g : ℕ) (ds : Exprs) → e.equation.right ≡ Expr.call g ds → Callable C C' g = λ g ds h. (subst (λ (u : Expr). Ok clocks (Callable C C') Old u e.clock) h (okay e d.1)).0 in
        let keep = yielded f.right f.next is (left_keeps f.number c k e.equation.left e.equation.right f.before (several e d.1 b) callable) in
        kept (on M σ (c ↓ k)) (τ x) n (keep f.leads f.unset f.holds x d.2) t s l u

    -- what a name read on clock c keeps between the ticks of c
    keeps : (x : ℕ) (c : Clock) → OkName clocks (Callable C C') Old x c → (t s : ℕ) → t < n → last (on M σ c) (suc t) ≡ some s → τ x t ≡ τ x s
    unfolding on
    keeps x c o t s l q = go (clock_of clocks x) refl
      where
        clocked : (d : Clock) → clock_of clocks x ≡ some d → c ≡ d → τ x t ≡ τ x s
        clocked base e u = ap (τ x) (some-injective t s (rw u at q))
        clocked (d ↓ k) e u = clocked_keeps x d k e t s l (subst (λ (z : Clock). last (on M σ z) (suc t) ≡ some s) u q)

        go : (v : Option Clock) → clock_of clocks x ≡ v → τ x t ≡ τ x s
        go none e = name_const x (settled x o.0 e) o.0 t s l (omega (arith, (last-true (on M σ c) (suc t) s q).0))
        go (some d) e = clocked d e (sym (o.1 d e))

    -- a source equation, from its rewriting
    abbrev Source : Clock → List ℕ → Expr → Expr → State → Type 0
    Source c xs e r s' = Leads s' S → (β : Unset Val) → Holds M C' τ n base (record { left = xs; right = r }) β → (α : Unset Val) × Holds M C σ n c (record { left = xs; right = e }) α

    -- the value is the same, so the left names take it
    taken : (xs : List ℕ) (e r : Expr) (c : Clock) (β : Unset Val) → ((x : ℕ) → Memᴰ x xs → Old x) → Holds M C' τ n base (record { left = xs; right = r }) β
        → Same M C C' operators σ τ n e c r β → (α : Unset Val) × Holds M C σ n c (record { left = xs; right = e }) α
    unfolding Holds
    taken xs e r c β old h w = (w.0, λ t l o. rw (w.1 t l o) (takes_moved M σ τ xs t (λ x m. agree x (old x m) t) _ (h t l (base_on t))))
      where
        base_on : (t : ℕ) → on M τ base t ≡ true
        base_on t = refl

    source_several : (i : ℕ) (c : Clock) (k : Condition) (x y : ℕ) (xs : List ℕ) (f : ℕ) (es : Exprs) (s : State) → Ok clocks (Callable C C') Old (Expr.call f es) (c ↓ k) → ((z : ℕ) → Memᴰ z (x ∷ y ∷ xs) → Old z)
        → Yields (Source (c ↓ k) (x ∷ y ∷ xs) (Expr.call f es)) (right_side types nodes new here node i (c ↓ k) (x ∷ y ∷ xs) (Expr.call f es) s)
    unfolding Ok
    source_several i c k x y xs f es s ok old = yields-map (λ r s' d g β h.
        let a : ℕ = flag_name new (c ↓ k) d.before in
        let g₁ : Leads (with_flag (c ↓ k) d.before) S = leads-trans (with_flag (c ↓ k) d.before) s' S d.leads g in
        let fl : Flags M σ τ n a (c ↓ k) = flag_true M σ τ n new S flagged (c ↓ k) d.before refl g₁ in
        let p = d.known (leads-trans d.before (with_flag (c ↓ k) d.before) S (leads-flag (c ↓ k) d.before) g₁) in
        let w : Same M C C' operators σ τ n (Expr.call f es) (c ↓ k) r β
        = rw d.is (call_gated M C C' operators σ τ n f es d.arguments d.defaults (c ↓ k) a β ok.0 fl (p.1 (in₀ (in₁ β)))) in
        taken (x ∷ y ∷ xs) (Expr.call f es) r (c ↓ k) β old h w)
        (several-gated types nodes new here node i c k x y xs f es s ok.0.1 (mains M C C' operators σ τ n types nodes new node kinds clocks Old S agree flagged firsted held keeps i es (c ↓ k) s ok.1))

    source_at : (i : ℕ) (c : Clock) (xs : List ℕ) (e : Expr) (s : State) → Ok clocks (Callable C C') Old e c → ((x : ℕ) → Memᴰ x xs → Old x) → (is_base c ≡ false → CallIfSeveral xs e)
        → Yields (Source c xs e) (right_side types nodes new here node i c xs e s)
    unfolding right_side Holds Takes
    source_at i base xs e s ok old call = yields-after _ (main M C C' operators σ τ n types nodes new node kinds clocks Old S agree flagged firsted held keeps i e base s ok) (λ f s₁ p. yields (λ g β h. taken xs e f base β old h ((p g).1 β)))
    source_at i (c ↓ k) [] e s ok old call = yields-all _ (λ r s' g β h. (β, λ t l o. tt))
    source_at i (c ↓ k) (x ∷ []) e s ok old call = yields-after _ (main M C C' operators σ τ n types nodes new node kinds clocks Old S agree flagged firsted held keeps i e (c ↓ k) s ok) (λ f s₁ p.
        single-yields types nodes new here node i x (Expr.var (flag_name new (c ↓ k) s₁)) f (with_flag (c ↓ k) s₁) (λ d g β h.
        let w = (p (leads-trans s₁ (with_flag (c ↓ k) s₁) S (leads-flag (c ↓ k) s₁) g)).1 (in₀ (in₁ β)) in
        (w.0, λ t l o. agree x (old x (Memᴰ.head refl)) t ∙ (rw o at (under-flag M σ τ n C' (flag_name new (c ↓ k) s₁) (c ↓ k) (flag_true M σ τ n new S flagged (c ↓ k) s₁ refl g) x f (Expr.arrow d (Expr.pre (Expr.var x))) β h t l) ∙ sym (w.1 t l o)))))
    source_at i (c ↓ k) (x ∷ y ∷ xs) e s ok old call =
        let d = call refl in
        subst⁻¹ (λ (e : Expr). Ok clocks (Callable C C') Old e (c ↓ k) → Yields (Source (c ↓ k) (x ∷ y ∷ xs) e) (right_side types nodes new here node i (c ↓ k) (x ∷ y ∷ xs) e s)) d.2
        (λ ok. source_several i c k x y xs d.0 d.1 s ok old) ok

    source : (e : Clocked) → Memᴰ e es → OneHolds M C σ n e
    source e m =
        let f = find e m in
        yielded f.right f.next f.is (source_at f.number e.clock e.equation.left e.equation.right f.before (okay e m) (lefts-old e m) (several e m)) f.leads f.unset f.holds

    -- the source's equations hold, each on its clock
    pub sources : EachHolds M C σ n es
    sources = each_from M C σ n es source
