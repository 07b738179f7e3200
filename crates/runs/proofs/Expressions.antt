-- The main induction: at each tick of its clock, a rewritten expression has the value of the expression.
use mathlib.Core.Path.{◌≡◌, refl, sym, ap, ap₂, ◌∙◌, subst⁻¹}
use mathlib.Core.Bool.{Bool, true, false, not, ◌&&◌, true≢false, false≢true}
use mathlib.Core.List.{List, [], ◌∷◌, ◌++◌}
use mathlib.Core.Option.{Option, none, some, none-ne-some}
use Prim.Native.Nat.{ℕ, zero, suc, ◌<◌}
use native.Mathlib.Omega.{arith}
use lib.Dec.{eqb}
use lib.ListN.{length}
use Rattle.definitions.specs.declared.Condition.{Condition}
use Rattle.definitions.specs.Lists.{choose}
use Rattle.definitions.specs.Tree.{Ty, TypeDef, Expr, Exprs, Equation, Node}
use Rattle.definitions.specs.Clock.{Clock, base, ◌↓◌, parent, is_on, is_not, is_base}
use Rattle.definitions.specs.InferClocks.{Clocks}
use Rattle.definitions.specs.Declock.{State, Hold, clock_place, Rewritten, Stem, ck, first, hold, rewrite, rewrites, pre_on, Shape, bare, other, calls, shape_of, if_of}
use Rattle.shapes.proofs.Added.{has, has-goes, has-add, has-parents, place-goes}
use Rattle.runs.specs.Callees.{is_operator, Callees}
use Rattle.runs.specs.Run.{Meaning, last, so_far, since, Env, Unset, in₀, in₁, meets, on, called_at, gated_at, value, values, Holds}
use Rattle.runs.proofs.Ticks.{none?, so_far-cong, last-true, least, least-is, kept}
use Rattle.runs.proofs.Facts.{eqb-self, Goes}
use Rattle.shapes.proofs.Yields.{Yields, yields, yields-after, yields-map}
use Rattle.runs.proofs.Growth.{Leads, leads-trans, leads-flag, leads-first, leads-hold, leads-condact, with_flag, with_first, with_hold, with_condact, flag_name, first_name, hold_name, hold_of, gate, call_on-yields, pre_on-yields, arrow_on-yields}
use Rattle.runs.proofs.Checked.{OkName, Ok, Oks}

-- unset values joined: one for the place itself, those of the first part, those of the rest
abbrev pub joined : {Val : Type 0} → Val → Unset Val → Unset Val → Unset Val
joined a α β [] = a
joined a α β (false ∷ w) = α w
joined a α β (true ∷ w) = β w

-- an equation with one left name
abbrev pub one : ℕ → Expr → Equation
one x e = record { left = x ∷ []; right = e }

-- is it a bare name?
abbrev is_bare : Shape → Bool
is_bare bare = true
is_bare other = false
is_bare (calls f) = false

-- a name that is `condact` in neither sheet
abbrev pub Callable : Callees → Callees → ℕ → Type 0
Callable C C' f = (eqb f C.condact ≡ false) × (eqb f C'.condact ≡ false)

-- flags, by the source's environment σ and the rewritten node's τ
module _ {Val : Type 0} (M : Meaning Val) (σ τ : Env Val) (n : ℕ) where
  open M use {is_true}

  -- the name a is true where the clock is on
  abbrev pub Flags : ℕ → Clock → Type 0
  Flags a c = (t : ℕ) → t < n → is_true (τ a t) ≡ on M σ c t

  -- the name a is true until the clock has been on before
  abbrev pub Firsts : ℕ → Clock → Type 0
  Firsts a c = (t : ℕ) → t < n → is_true (τ a t) ≡ none? (last (on M σ c) t)

  -- a clock's flags, by the names that they were given when needed, S being what rewriting the whole node needed
  pub flag_true : (new : Stem → ℕ → ℕ) (S : State) → ((c : Clock) → has c S.flags ≡ true → Flags (new ck (clock_place c S.flags)) c)
      → (c : Clock) (s : State) → is_base c ≡ false → Leads (with_flag c s) S → Flags (flag_name new c s) c
  flag_true new S flagged c s b g =
      let h = has-parents c s.flags b in
      let l : List Clock = (with_flag c s).flags in
      subst⁻¹ (λ (j : ℕ). Flags (new ck j) c) (place-goes c l S.flags h g.flags) (flagged c (has-goes c l S.flags g.flags h))

  pub first-true : (new : Stem → ℕ → ℕ) (S : State) → ((c : Clock) → has c S.firsts ≡ true → Firsts (new first (clock_place c S.firsts)) c)
      → (c : Clock) (s : State) → Leads (with_first c s) S → Firsts (first_name new c s) c
  first-true new S firsted c s g =
      let h = has-add c s.firsts in
      let l : List Clock = (with_first c s).firsts in
      subst⁻¹ (λ (j : ℕ). Firsts (new first j) c) (place-goes c l S.firsts h g.firsts) (firsted c (has-goes c l S.firsts g.firsts h))

  -- a name that takes e' on a clock's ticks, and r off them, a being the clock's flag
  pub under-flag : (C : Callees) (a : ℕ) (c : Clock) → Flags a c → (x : ℕ) (e' r : Expr) (β : Unset Val) → Holds M C τ n base (one x (if_of (Expr.var a) e' r)) β
      → (t : ℕ) → t < n → τ x t ≡ choose (on M σ c t) (value M C e' τ (in₀ (in₁ β)) base t) (value M C r τ (in₀ (in₁ (in₁ β))) base t)
  unfolding value values on Holds
  under-flag C a c fl x e' r β h t l = h t l refl ∙ (M.if-law _ _ _ ∙ ap (λ (b : Bool). choose b (value M C e' τ (in₀ (in₁ β)) base t) (value M C r τ (in₀ (in₁ (in₁ β))) base t)) (fl t l))

-- The values of each form, C and C' being the callees of the two sheets, with the same operators.
module _ {Val : Type 0} (M : Meaning Val) (C C' : Callees) (operators : (f : ℕ) → C.operators f ≡ C'.operators f) (σ τ : Env Val) (n : ℕ) where
  open M use {is_true, form, function, operator, if-law}

  abbrev condact : ℕ
  condact = C'.condact

  -- an expression's value in the source, and in the rewritten node
  abbrev was : Expr → Unset Val → Clock → ℕ → Val
  was e α c t = value M C e σ α c t

  abbrev now : Expr → Unset Val → ℕ → Val
  now e α t = value M C' e τ α base t

  -- some unset values make e, on clock c, at each tick, what e' is on base
  abbrev pub Same : Expr → Clock → Expr → Unset Val → Type 0
  Same e c e' α' = (α : Unset Val) × ((t : ℕ) → t < n → on M σ c t ≡ true → was e α c t ≡ now e' α' t)

  abbrev pub Sames : Exprs → Clock → Exprs → Unset Val → Type 0
  Sames e c e' α' = (α : Unset Val) × ((t : ℕ) → t < n → on M σ c t ≡ true → values M C e σ α c t ≡ values M C' e' τ α' base t)

  -- `pre` on a clock, read from a name that keeps what f was
  pre_var : (c : Clock) (h : ℕ) (f : ℕ → Val) (α' : Unset Val)
      → ((t s : ℕ) → t < n → last (on M σ c) (suc t) ≡ some s → f s ≡ τ h t)
      → (v : Val) × ((t : ℕ) → t < n → on M σ c t ≡ true → since (last (on M σ c) t) v f ≡ now (Expr.pre (Expr.var h)) α' t)
  unfolding value on
  pre_var c h f α' g = (v, λ t l o. go t l o (last (on M σ c) t) refl)
    where
      v : Val
      v = now (Expr.pre (Expr.var h)) α' (least (on M σ c) n)

      later : (t s : ℕ) → t < n → last (on M σ c) t ≡ some s → f s ≡ now (Expr.pre (Expr.var h)) α' t
      later zero s l e = absurd (none-ne-some s e)
      later (suc t) s l e = g t s (omega arith) e

      go : (t : ℕ) → t < n → on M σ c t ≡ true → (o : Option ℕ) → last (on M σ c) t ≡ o → since o v f ≡ now (Expr.pre (Expr.var h)) α' t
      go t l o none e = ap (λ (u : ℕ). now (Expr.pre (Expr.var h)) α' u) (least-is (on M σ c) n t l o e)
      go t l o (some s) e = later t s l e

  -- a `pre` on base stays a `pre`
  pre_base : (e e' : Expr) (α' : Unset Val) → Same e base e' (in₀ α') → Same (Expr.pre e) base (Expr.pre e') α'
  unfolding value on
  pre_base e e' α' r = (joined (α' []) r.0 r.0, go)
    where
      go : (t : ℕ) → t < n → on M σ base t ≡ true → was (Expr.pre e) (joined (α' []) r.0 r.0) base t ≡ now (Expr.pre e') α' t
      go zero l o = refl
      go (suc t) l o = r.1 t (omega arith) refl

  -- a `pre` on a clock reads a hold, which keeps the operand's last value while the clock is off
  pre_held : (e : Expr) (c : Clock) (a h : ℕ) (e' : Expr) (α' β : Unset Val) → Flags M σ τ n a c → Holds M C' τ n base (one h (if_of (Expr.var a) e' (Expr.pre (Expr.var h)))) β
      → Same e c e' (in₀ (in₁ β)) → Same (Expr.pre e) c (Expr.pre (Expr.var h)) α'
  unfolding value on
  pre_held e c a h e' α' β fl hh r = (joined p.0 r.0 r.0, p.1)
    where
      w : (t : ℕ) → t < n → τ h t ≡ choose (on M σ c t) (now e' (in₀ (in₁ β)) t) (now (Expr.pre (Expr.var h)) (in₀ (in₁ (in₁ β))) t)
      w = under-flag M σ τ n C' a c fl h e' (Expr.pre (Expr.var h)) β hh

      off : (t s : ℕ) → suc t < n → on M σ c (suc t) ≡ false → last (on M σ c) (suc t) ≡ some s → τ h (suc t) ≡ τ h t
      off t s l o q = rw o at (w (suc t) l)

      f : ℕ → Val
      f s = was e r.0 c s

      at : (t s : ℕ) → t < n → last (on M σ c) (suc t) ≡ some s → f s ≡ τ h t
      at t s l q =
          let u : (s < suc t) × (on M σ c s ≡ true) = last-true (on M σ c) (suc t) s q in
          let v : τ h s ≡ now e' (in₀ (in₁ β)) s = rw u.1 at (w s (omega (arith, u.0))) in
          r.1 s (omega (arith, u.0)) u.1 ∙ (sym v ∙ sym (kept (on M σ c) (τ h) n off t s l q))

      p : (v : Val) × ((t : ℕ) → t < n → on M σ c t ≡ true → since (last (on M σ c) t) v f ≡ now (Expr.pre (Expr.var h)) α' t)
      p = pre_var c h f α' at

  -- a `pre` of a name stays a `pre`, because the name itself keeps its value while the clock is off
  pre_name : (x : ℕ) (c : Clock) (α' : Unset Val) → ((t : ℕ) → σ x t ≡ τ x t) → ((t s : ℕ) → t < n → last (on M σ c) (suc t) ≡ some s → τ x t ≡ τ x s) → Same (Expr.pre (Expr.var x)) c (Expr.pre (Expr.var x)) α'
  unfolding value on
  pre_name x c α' agree keeps = (joined p.0 α' α', p.1)
    where
      p : (v : Val) × ((t : ℕ) → t < n → on M σ c t ≡ true → since (last (on M σ c) t) v (σ x) ≡ now (Expr.pre (Expr.var x)) α' t)
      p = pre_var c x (σ x) α' (λ t s l q. agree s ∙ sym (keeps t s l q))

  -- a `->` on base stays a `->`
  arrow_base : (a b a' b' : Expr) (α' : Unset Val) → Same a base a' (in₀ α') → Same b base b' (in₁ α') → Same (Expr.arrow a b) base (Expr.arrow a' b') α'
  unfolding value on
  arrow_base a b a' b' α' r q = (joined (α' []) r.0 q.0, go)
    where
      go : (t : ℕ) → t < n → on M σ base t ≡ true → was (Expr.arrow a b) (joined (α' []) r.0 q.0) base t ≡ now (Expr.arrow a' b') α' t
      go zero l o = r.1 zero l refl
      go (suc t) l o = q.1 (suc t) l refl

  since_none : (o : Option ℕ) (x y : Val) → since o x (λ s. y) ≡ choose (none? o) x y
  since_none none x y = refl
  since_none (some s) x y = refl

  -- a `->` on a clock becomes an if on the first-tick flag
  arrow_first : (a b a' b' : Expr) (c : Clock) (f : ℕ) (α' : Unset Val) → ((t : ℕ) → t < n → is_true (τ f t) ≡ none? (last (on M σ c) t))
      → Same a c a' (in₀ (in₁ α')) → Same b c b' (in₀ (in₁ (in₁ α'))) → Same (Expr.arrow a b) c (if_of (Expr.var f) a' b') α'
  unfolding value values
  arrow_first a b a' b' c f α' fl r q = (
    joined (α' []) r.0 q.0,
    λ t l o.
        ap₂ (λ (x y : Val). since (last (on M σ c) t) x (λ s. y)) (r.1 t l o) (q.1 t l o)
        ∙ (since_none (last (on M σ c) t) _ _
        ∙ (ap (λ (u : Bool). choose u (now a' (in₀ (in₁ α')) t) (now b' (in₀ (in₁ (in₁ α'))) t)) (sym (fl t l)) ∙ sym (if-law _ _ _))),
  )

  -- a call on two clocks with the same ticks, and with the same arguments there
  called_same : (f : ℕ) (p q : ℕ → Bool) (g h : ℕ → List Val) (t : ℕ) → ((s : ℕ) → s < suc t → p s ≡ q s) → p t ≡ true → ((s : ℕ) → s < suc t → p s ≡ true → g s ≡ h s)
      → called_at M C f g p t ≡ called_at M C' f h q t
  unfolding called_at
  called_same f p q g h t pq pt gh = ap₂ (λ (x y : Val). choose (C.operators f) x y) (ap (operator f) (so_far-cong p q g h (suc t) pq gh)) (ap (function f) (gh t (omega arith) pt))
      ∙ ap (λ (b : Bool). choose b (operator f (so_far q h (suc t))) (function f (h t))) (operators f)

  -- a call of no operator
  call_plain : (f : ℕ) (es es' : Exprs) (c : Clock) (α' : Unset Val) → Callable C C' f → C.operators f ≡ false → Sames es c es' α' → Same (Expr.call f es) c (Expr.call f es') α'
  unfolding value values called_at
  call_plain f es es' c α' nc nf r = (r.0, λ t l o. rw (nc.0, nc.1, nf, sym (operators f) ∙ nf) (ap (function f) (r.1 t l o)))

  -- a call on base
  call_base : (f : ℕ) (es es' : Exprs) (α' : Unset Val) → Callable C C' f → Sames es base es' α' → Same (Expr.call f es) base (Expr.call f es') α'
  unfolding value values on
  call_base f es es' α' nc r = (r.0, λ t l o. rw (nc.0, nc.1) (called_same f (on M σ base) (on M τ base) (values M C es σ r.0 base) (values M C' es' τ α' base) t (λ s u. refl) refl (λ s u v. r.1 s (omega arith) refl)))

  -- a gated call: it runs at the ticks at which the flag is true, which are those of its clock
  pub call_gated : (f : ℕ) (es es' ds : Exprs) (c : Clock) (a : ℕ) (α' : Unset Val) → Callable C C' f → Flags M σ τ n a c → Sames es c es' (in₀ (in₁ α')) → Same (Expr.call f es) c (gate condact a f es' ds) α'
  unfolding value values on gated_at
  call_gated f es es' ds c a α' nc fl r = (
    r.0,
    λ t l o. rw (nc.0, eqb-self condact, fl t l ∙ o, nc.1)
        (called_same f _ _ _ _ t (λ s u. sym (fl s (omega arith))) o (λ s u v. r.1 s (omega arith) v)),
  )

  -- a merge becomes an if on its clock name
  merge_if : (x : ℕ) (a b a' b' : Expr) (c : Clock) (α' : Unset Val) → ((t : ℕ) → σ x t ≡ τ x t)
      → Same a (c ↓ is_on x) a' (in₀ (in₁ α')) → Same b (c ↓ is_not x) b' (in₀ (in₁ (in₁ α')))
      → Same (Expr.merge x a b) c (if_of (Expr.var x) a' b') α'
  unfolding value values on
  merge_if x a b a' b' c α' agree r q = (joined (α' []) r.0 q.0, λ t l o. go t l o (is_true (σ x t)) refl ∙ sym (if-law _ _ _ ∙ ap (λ (v : Val). choose (is_true v) (now a' (in₀ (in₁ α')) t) (now b' (in₀ (in₁ (in₁ α'))) t)) (sym (agree t))))
    where
      va : ℕ → Val
      va t = was a r.0 (c ↓ is_on x) t

      vb : ℕ → Val
      vb t = was b q.0 (c ↓ is_not x) t

      go : (t : ℕ) → t < n → on M σ c t ≡ true → (u : Bool) → is_true (σ x t) ≡ u
          → choose (is_true (σ x t)) (va t) (vb t) ≡ choose (is_true (σ x t)) (now a' (in₀ (in₁ α')) t) (now b' (in₀ (in₁ (in₁ α'))) t)
      go t l o true e = rw e (r.1 t l (ap₂ ◌&&◌ o e))
      go t l o false e = rw e (q.1 t l (ap₂ ◌&&◌ o (ap not e)))

  -- a tick of a clock is a tick of its parent
  on-parent : (c : Clock) (k : Condition) (t : ℕ) → on M σ (c ↓ k) t ≡ true → on M σ c t ≡ true
  unfolding on
  on-parent c k t h = go (on M σ c t) refl h
    where
      go : (u : Bool) → on M σ c t ≡ u → (u && meets M k.test (σ k.name t)) ≡ true → on M σ c t ≡ true
      go true e q = e
      go false e q = absurd (false≢true q)

  -- a when: each tick of its clock is one of the parent's
  when_parent : (k : Condition) (e e' : Expr) (c : Clock) (α' : Unset Val) → c ≡ parent c ↓ k → Same e (parent c) e' α' → Same (Expr.when k e) c e' α'
  unfolding value
  when_parent k e e' c α' q r = (r.0, λ t l u. r.1 t l (on-parent (parent c) k t (rw q at u)))

  -- The induction: S is what rewriting the whole node needed; on the names that are `Old` the two environments agree.
  module _ (types : List TypeDef) (nodes : List Node) (new : Stem → ℕ → ℕ) (node : Node) (kinds : (f : ℕ) → C.operators f ≡ is_operator nodes f)
      (clocks : Clocks) (Old : ℕ → Type 0) (S : State)
      (agree : (x : ℕ) → Old x → (t : ℕ) → σ x t ≡ τ x t)
      (flagged : (c : Clock) → has c S.flags ≡ true → Flags M σ τ n (new ck (clock_place c S.flags)) c)
      (firsted : (c : Clock) → has c S.firsts ≡ true → Firsts M σ τ n (new first (clock_place c S.firsts)) c)
      (held : (l : List Hold) (h : Hold) → Goes (l ++ (h ∷ [])) S.holds → (α : Unset Val) × Holds M C' τ n base (one (new hold (length l)) h.right) α)
      (keeps : (x : ℕ) (c : Clock) → OkName clocks (Callable C C') Old x c → (t s : ℕ) → t < n → last (on M σ c) (suc t) ≡ some s → τ x t ≡ τ x s)
    where
      -- what rewriting an expression from a state yields: the state led here, and the values are the same
      abbrev pub Post : Expr → Clock → State → Expr → State → Type 0
      Post e c s e' s' = Leads s' S → Leads s S × ((β : Unset Val) → Same e c e' β)

      abbrev pub Posts : Exprs → Clock → State → Exprs → State → Type 0
      Posts e c s e' s' = Leads s' S → Leads s S × ((β : Unset Val) → Sames e c e' β)

      module _ (i : ℕ) where
        abbrev rewriting : Clock → Expr → State → Rewritten Expr
        rewriting c e s = rewrite types nodes new condact node i c e s

        -- a `pre` that needed a hold
        pre_hold : (e : Expr) (c : Clock) (s s₁ : State) (f : Expr) (t : Ty) → is_base c ≡ false → Post e c s f s₁
            → Post (Expr.pre e) c s (Expr.pre (Expr.var (hold_name new s₁))) (with_hold (hold_of new c f t s₁) (with_flag c s₁))
        pre_hold e c s s₁ f t b q g =
            let h : Hold = hold_of new c f t s₁ in
            let g₁ : Leads (with_flag c s₁) S = leads-trans (with_flag c s₁) (with_hold h (with_flag c s₁)) S (leads-hold h (with_flag c s₁)) g in
            let r = q (leads-trans s₁ (with_flag c s₁) S (leads-flag c s₁) g₁) in
            let hh = held s₁.holds h g.holds in
            (r.0, λ β. pre_held e c (flag_name new c s₁) (hold_name new s₁) f β hh.0 (flag_true M σ τ n new S flagged c s₁ b g₁) hh.1 (r.1 (in₀ (in₁ hh.0))))

        -- `pre` of anything but a bare name
        pre_other : (e : Expr) (c : Clock) (s : State) → is_bare (shape_of e) ≡ false → Yields (Post e c s) (rewriting c e s) → Yields (Post (Expr.pre e) c s) (rewriting c (Expr.pre e) s)
        unfolding rewrite
        pre_other e c s v y = yields-after _ y (λ f s₁ q. pre_on-yields types nodes new condact node i c e f s₁
            (λ b. plain c b f s₁ q) (λ b. absurd (true≢false (ap is_bare (sym b) ∙ v))) (λ b t. pre_hold e c s s₁ f t b q))
          where
            plain : (d : Clock) → is_base d ≡ true → (f : Expr) (s₁ : State) → Post e d s f s₁ → Post (Expr.pre e) d s (Expr.pre f) s₁
            plain base b f s₁ q g = let r = q g in (r.0, λ β. pre_base e f β (r.1 (in₀ β)))
            plain (d ↓ k) b f s₁ q g = absurd (false≢true b)

        -- any `pre`
        pre_step : (e : Expr) (c : Clock) (s : State) → Ok clocks (Callable C C') Old e c → Yields (Post e c s) (rewriting c e s) → Yields (Post (Expr.pre e) c s) (rewriting c (Expr.pre e) s)
        unfolding rewrite Ok pre_on
        pre_step (Expr.var x) c s o y = yields (λ g. (g, λ β. pre_name x c β (agree x o.0) (keeps x c o)))
        pre_step (Expr.const l w) c s o y = pre_other (Expr.const l w) c s refl y
        pre_step (Expr.op h es) c s o y = pre_other (Expr.op h es) c s refl y
        pre_step (Expr.pre e) c s o y = pre_other (Expr.pre e) c s refl y
        pre_step (Expr.arrow a b) c s o y = pre_other (Expr.arrow a b) c s refl y
        pre_step (Expr.call f es) c s o y = pre_other (Expr.call f es) c s refl y
        pre_step (Expr.when k e) c s o y = pre_other (Expr.when k e) c s refl y
        pre_step (Expr.merge x a b) c s o y = pre_other (Expr.merge x a b) c s refl y

        -- a `->` on base, and on a clock
        arrow_base_post : (a b : Expr) (c : Clock) (s s₁ s₂ : State) (d e : Expr) → is_base c ≡ true → Post a c s d s₁ → Post b c s₁ e s₂ → Post (Expr.arrow a b) c s (Expr.arrow d e) s₂
        arrow_base_post a b base s s₁ s₂ d e z p q g = let r = q g in let u = p r.0 in (u.0, λ β. arrow_base a b d e β (u.1 (in₀ β)) (r.1 (in₁ β)))
        arrow_base_post a b (c ↓ k) s s₁ s₂ d e z p q g = absurd (false≢true z)

        arrow_first_post : (a b : Expr) (c : Clock) (s s₁ s₂ : State) (d e : Expr) → Post a c s d s₁ → Post b c s₁ e s₂ → Post (Expr.arrow a b) c s (if_of (Expr.var (first_name new c s₂)) d e) (with_first c s₂)
        arrow_first_post a b c s s₁ s₂ d e p q g =
            let r = q (leads-trans s₂ (with_first c s₂) S (leads-first c s₂) g) in
            let u = p r.0 in
            (u.0, λ β. arrow_first a b d e c (first_name new c s₂) β (first-true M σ τ n new S firsted c s₂ g) (u.1 (in₀ (in₁ β))) (r.1 (in₀ (in₁ (in₁ β)))))

        -- a call on base, and one that was gated
        call_base_post : (f : ℕ) (es fs : Exprs) (c : Clock) (s s₁ : State) → Callable C C' f → is_base c ≡ true → Posts es c s fs s₁ → Post (Expr.call f es) c s (Expr.call f fs) s₁
        call_base_post f es fs base s s₁ nc b p g = let r = p g in (r.0, λ β. call_base f es fs β nc (r.1 β))
        call_base_post f es fs (c ↓ k) s s₁ nc b p g = absurd (false≢true b)

        call_gated_post : (f : ℕ) (es fs ds : Exprs) (c : Clock) (s s₁ : State) → Callable C C' f → is_base c ≡ false → Posts es c s fs s₁
            → Post (Expr.call f es) c s (gate condact (flag_name new c s₁) f fs ds) (with_condact (with_flag c s₁))
        call_gated_post f es fs ds c s s₁ nc b p g =
            let g₁ : Leads (with_flag c s₁) S = leads-trans (with_flag c s₁) (with_condact (with_flag c s₁)) S (leads-condact (with_flag c s₁)) g in
            let r = p (leads-trans s₁ (with_flag c s₁) S (leads-flag c s₁) g₁) in
            (r.0, λ β. call_gated f es fs ds c (flag_name new c s₁) β nc (flag_true M σ τ n new S flagged c s₁ b g₁) (r.1 (in₀ (in₁ β))))

        -- the induction
        mutual
          unfolding value values rewrite Ok

          pub main : (e : Expr) (c : Clock) (s : State) → Ok clocks (Callable C C') Old e c → Yields (Post e c s) (rewriting c e s)
          main (Expr.const v w) c s o = yields (λ g. (g, λ β. (β, λ t l u. refl)))
          main (Expr.var x) c s o = yields (λ g. (g, λ β. (β, λ t l u. agree x o.0 t)))
          main (Expr.op h es) c s o = yields-after _ (mains es c s o) (λ fs s₁ p. yields (λ g. let r = p g in (r.0, λ β. let q = r.1 β in (q.0, λ t l u. ap (form h) (q.1 t l u)))))
          main (Expr.pre e) c s o = pre_step e c s o (main e c s o)
          main (Expr.arrow a b) c s o = yields-after _ (main a c s o.0) (λ d s₁ p. yields-after _ (main b c s₁ o.1) (λ e s₂ q.
              arrow_on-yields types nodes new condact node i c d e s₂ (λ z. arrow_base_post a b c s s₁ s₂ d e z p q) (λ z. arrow_first_post a b c s s₁ s₂ d e p q)))
          main (Expr.call f es) c s o = yields-after _ (mains es c s o.1) (λ fs s₁ p. call_on-yields types nodes new condact node i c f fs s₁
              (λ b. call_base_post f es fs c s s₁ o.0 b p)
              (λ nf g. let r = p g in (r.0, λ β. call_plain f es fs c β o.0 (kinds f ∙ nf) (r.1 β)))
              (λ b u ds. call_gated_post f es fs ds c s s₁ o.0 b p))
          main (Expr.when k e) c s o = yields-map (λ e' s₁ p g. let r = p g in (r.0, λ β. when_parent k e e' c β o.0 (r.1 β))) (main e (parent c) s o.2)
          main (Expr.merge x a b) c s o = yields-after _ (main a (c ↓ is_on x) s o.1) (λ d s₁ p.
              yields-after _ (main b (c ↓ is_not x) s₁ o.2) (λ e s₂ q. yields (λ g.
              let r = q g in
              let u = p r.0 in
              (u.0, λ β. merge_if x a b d e c β (agree x o.0.0) (u.1 (in₀ (in₁ β))) (r.1 (in₀ (in₁ (in₁ β))))))))

          pub mains : (es : Exprs) (c : Clock) (s : State) → Oks clocks (Callable C C') Old es c → Yields (Posts es c s) (rewrites types nodes new condact node i c es s)
          mains Exprs.end c s o = yields (λ g. (g, λ β. (β, λ t l u. refl)))
          mains (Exprs.and e es) c s o = yields-after _ (main e c s o.0) (λ f s₁ p. yields-after _ (mains es c s₁ o.1) (λ fs s₂ q. yields (λ g.
              let r = q g in
              let u = p r.0 in (
                u.0,
                λ β.
                    let x = u.1 (in₀ β) in
                    let y = r.1 (in₁ β) in
                    (joined (β []) x.0 y.0, λ t l z. ap₂ {C = List Val} (λ v vs. v ∷ vs) (x.1 t l z) (y.1 t l z)),
              ))))
