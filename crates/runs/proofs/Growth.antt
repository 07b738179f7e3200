-- What a step of rewriting may do to its state: the lists of flags, first-tick flags and holds only go on,
-- and the clocks with flags stay closed under parents and made of the node's own names.
use mathlib.Core.Path.{◌≡◌, refl, sym, ap, ◌∙◌, subst⁻¹}
use mathlib.Core.Bool.{Bool, true, false, false≢true}
use mathlib.Core.List.{List, [], ◌∷◌, ◌++◌, Memᴰ}
use mathlib.Core.Option.{Option, none, some}
use mathlib.Core.Logic.{◌⊎◌, inl, inr}
use Prim.Native.Nat.{ℕ, suc}
use lib.Dec.{eqb}
use lib.ListN.{length}
use Rattle.std.proofs.lemmas.Bool.{eqb-true}
use Rattle.definitions.specs.declared.Condition.{Condition}
use Rattle.definitions.specs.Lists.{choose, find}
use Rattle.definitions.specs.Tree.{Ty, Declared, TypeDef, Expr, Exprs, Node}
use Rattle.definitions.specs.Clock.{Clock, base, ◌↓◌, parent, is_on, is_not, is_base}
use Rattle.definitions.specs.Types.{default}
use Rattle.definitions.specs.InferClocks.{Fault, pre_untyped, Clocked}
use Rattle.definitions.specs.Declock.{State, nothing_needed, Hold, Rewritten, done, Rewriter, after, need, clock_place, add, add_with_parents, Stem, ck, first, hold, flag, new_hold, gated, output_defaults, left_default, left_defaults, call_on, pre_on, arrow_on, rewrite, rewrites, gate_several, under_flag, right_side, old_equations, operand_type, last_type, declared, operator_outputs, is_operator_kind, held_pre, Shape, bare, other, calls, shape_of, stop, if_of}
use Rattle.shapes.proofs.Added.{has, goes_add, goes-parents, has-goes, has-parents, add-cases}
use Rattle.runs.proofs.Facts.{Goes, goes_self, goes-trans}
use Rattle.runs.specs.Callees.{is_operator}
use Rattle.runs.specs.Plain.{Part, reads, callee, computes}
use Rattle.runs.proofs.Parts.{Each, Eachs}
use Rattle.shapes.proofs.Yields.{Yields, stops, yields, yields-after, yields-map}

-- every name of a clock's conditions meets P
module _ (P : ℕ → Type 0) where
  abbrev pub OfClock : Clock → Type 0
  OfClock base = Unit {0}
  OfClock (c ↓ k) = P k.name × OfClock c

  -- clocks whose parents are there too, made of such names
  pub record SoundClocks (cs : List Clock) : Type 0 where
    pub closed : (c : Clock) (k : Condition) → has (c ↓ k) cs ≡ true → is_base c ≡ false → has c cs ≡ true
    pub named : (c : Clock) → has c cs ≡ true → OfClock c

  sound-add : (c : Clock) (k : Condition) (cs : List Clock) → SoundClocks cs → (is_base c ≡ false → has c cs ≡ true) → OfClock (c ↓ k) → SoundClocks (add (c ↓ k) cs)
  sound-add c k cs s h o = record { closed = λ d l i e. close d l e (add-cases (c ↓ k) (d ↓ l) cs i); named = λ d i. name d (add-cases (c ↓ k) d cs i) }
    where
      up : (d : Clock) → has d cs ≡ true → has d (add (c ↓ k) cs) ≡ true
      up d i = has-goes d cs (add (c ↓ k) cs) (goes_add (c ↓ k) cs) i

      close : (d : Clock) (l : Condition) → is_base d ≡ false → (has (d ↓ l) cs ≡ true) ⊎ (d ↓ l ≡ c ↓ k) → has d (add (c ↓ k) cs) ≡ true
      close d l e (inl i) = up d (s.closed d l i e)
      close d l e (inr q) = let p : d ≡ c = ap parent q in up d (rw p (h (ap is_base (sym p) ∙ e)))

      name : (d : Clock) → (has d cs ≡ true) ⊎ (d ≡ c ↓ k) → OfClock d
      name d (inl i) = s.named d i
      name d (inr q) = subst⁻¹ OfClock q o

  pub sound-parents : (c : Clock) (cs : List Clock) → SoundClocks cs → OfClock c → SoundClocks (add_with_parents c cs)
  unfolding add_with_parents
  sound-parents base cs s o = s
  sound-parents (c ↓ k) cs s o = sound-add c k (add_with_parents c cs) (sound-parents c cs s o.1) (has-parents c cs) o

  -- a state is sound: its flags are, and each clock with a first-tick flag has an activation flag
  pub record Sound (s : State) : Type 0 where
    pub flags : SoundClocks s.flags
    pub within : (c : Clock) → has c s.firsts ≡ true → has c s.flags ≡ true

  -- where nothing is needed, nothing is unsound
  pub nothing-sound : Sound nothing_needed
  nothing-sound = record { flags = record { closed = λ c k h b. absurd (false≢true h); named = λ c h. absurd (false≢true h) }; within = λ c h. absurd (false≢true h) }

-- one state leads to another: its lists go on
pub record Leads (s s' : State) : Type 0 where
  pub flags : Goes s.flags s'.flags
  pub firsts : Goes s.firsts s'.firsts
  pub holds : Goes s.holds s'.holds

pub leads-self : (s : State) → Leads s s
leads-self s = record { flags = goes_self s.flags; firsts = goes_self s.firsts; holds = goes_self s.holds }

pub leads-trans : (s t u : State) → Leads s t → Leads t u → Leads s u
leads-trans s t u p q = record {
  flags = goes-trans s.flags t.flags u.flags p.flags q.flags;
  firsts = goes-trans s.firsts t.firsts u.firsts p.firsts q.firsts;
  holds = goes-trans s.holds t.holds u.holds p.holds q.holds;
}

-- the states after the four needs
abbrev pub with_flag : Clock → State → State
with_flag c s = record { flags = add_with_parents c s.flags; firsts = s.firsts; holds = s.holds; condact = s.condact }

abbrev pub with_first : Clock → State → State
with_first c s = record { flags = add_with_parents c s.flags; firsts = add c s.firsts; holds = s.holds; condact = s.condact }

abbrev pub with_hold : Hold → State → State
with_hold h s = record { flags = s.flags; firsts = s.firsts; holds = s.holds ++ (h ∷ []); condact = s.condact }

abbrev pub with_condact : State → State
with_condact s = record { flags = s.flags; firsts = s.firsts; holds = s.holds; condact = true }

pub leads-flag : (c : Clock) (s : State) → Leads s (with_flag c s)
leads-flag c s = record { flags = goes-parents c s.flags; firsts = goes_self s.firsts; holds = goes_self s.holds }

pub leads-first : (c : Clock) (s : State) → Leads s (with_first c s)
leads-first c s = record { flags = goes-parents c s.flags; firsts = goes_add c s.firsts; holds = goes_self s.holds }

pub leads-hold : (h : Hold) (s : State) → Leads s (with_hold h s)
leads-hold h s = record { flags = goes_self s.flags; firsts = goes_self s.firsts; holds = (h ∷ [], refl) }

pub leads-condact : (s : State) → Leads s (with_condact s)
leads-condact s = record { flags = goes_self s.flags; firsts = goes_self s.firsts; holds = goes_self s.holds }

-- a step: the state leads on, and stays sound
module _ (P : ℕ → Type 0) where
  abbrev pub Step : State → State → Type 0
  Step s s' = Leads s s' × (Sound P s → Sound P s')

  pub step-self : (s : State) → Step s s
  step-self s = (leads-self s, λ o. o)

  pub step-trans : (s t u : State) → Step s t → Step t u → Step s u
  step-trans s t u p q = (leads-trans s t u p.0 q.0, λ o. q.1 (p.1 o))

  pub step-flag : (c : Clock) (s : State) → OfClock P c → Step s (with_flag c s)
  step-flag c s o = (leads-flag c s, λ d. record { flags = sound-parents P c s.flags d.flags o; within = λ e i. has-goes e s.flags (add_with_parents c s.flags) (goes-parents c s.flags) (d.within e i) })

  pub step-first : (c : Clock) (s : State) → is_base c ≡ false → OfClock P c → Step s (with_first c s)
  step-first c s b o = (leads-first c s, λ d. record { flags = sound-parents P c s.flags d.flags o; within = λ e i. go d e (add-cases c e s.firsts i) })
    where
      go : Sound P s → (e : Clock) → (has e s.firsts ≡ true) ⊎ (e ≡ c) → has e (add_with_parents c s.flags) ≡ true
      go d e (inl i) = has-goes e s.flags (add_with_parents c s.flags) (goes-parents c s.flags) (d.within e i)
      go d e (inr q) = rw q (has-parents c s.flags b)

  pub step-hold : (h : Hold) (s : State) → Step s (with_hold h s)
  step-hold h s = (leads-hold h s, λ d. record { flags = d.flags; within = d.within })

  pub step-condact : (s : State) → Step s (with_condact s)
  step-condact s = (leads-condact s, λ d. record { flags = d.flags; within = d.within })

-- the names that the four needs give
module _ (new : Stem → ℕ → ℕ) where
  abbrev pub flag_name : Clock → State → ℕ
  flag_name c s = new ck (clock_place c (add_with_parents c s.flags))

  abbrev pub first_name : Clock → State → ℕ
  first_name c s = new first (clock_place c (add c s.firsts))

  abbrev pub hold_name : State → ℕ
  hold_name s = new hold (length s.holds)

  -- the hold of a `pre` on clock c whose operand was rewritten to f
  abbrev pub hold_of : Clock → Expr → Ty → State → Hold
  hold_of c f t s = record { type = t; right = if_of (Expr.var (flag_name c s)) f (Expr.pre (Expr.var (hold_name s))) }

-- condact(a, f(es), ds), a being a flag's name
abbrev pub gate : ℕ → ℕ → ℕ → Exprs → Exprs → Expr
gate condact a f es ds = Expr.call condact (Exprs.and (Expr.var a) (Exprs.and (Expr.call f es) ds))

-- what the parts of rewriting yield
module _ (types : List TypeDef) (nodes : List Node) (new : Stem → ℕ → ℕ) (condact : ℕ) (node : Node) (i : ℕ) where
  -- what is only looked up leaves the state as it was
  pub need-same : {A : Type 0} (o : Option A) (f : Fault) (s : State) → Yields (λ a s'. s' ≡ s) (need i o f s)
  need-same none f s = stops
  need-same (some a) f s = yields refl

  pub outputs-same : (f : ℕ) (ds : List Declared) (s : State) → Yields (λ a s'. s' ≡ s) (output_defaults types nodes new condact node i f ds s)
  unfolding output_defaults
  outputs-same f [] s = yields refl
  outputs-same f (d ∷ ds) s = yields-after _ (need-same (default types d.type) _ s) (λ a s₁ q. yields-after _ (outputs-same f ds s₁) (λ b s₂ p. yields (p ∙ q)))

  pub left-same : (x : ℕ) (s : State) → Yields (λ a s'. s' ≡ s) (left_default types nodes new condact node i x s)
  unfolding left_default
  left-same x s = yields-after _ (need-same (last_type (declared node) x) _ s) (λ t s₁ q. yields-map (λ a s₂ p. p ∙ q) (need-same (default types t) _ s₁))

  pub lefts-same : (xs : List ℕ) (s : State) → Yields (λ a s'. s' ≡ s) (left_defaults types nodes new condact node i xs s)
  unfolding left_defaults
  lefts-same [] s = yields refl
  lefts-same (x ∷ xs) s = yields-after _ (left-same x s) (λ a s₁ q. yields-after _ (lefts-same xs s₁) (λ b s₂ p. yields (p ∙ q)))

  -- a call on a clock: it stays, or an operator's is gated
  pub call_on-yields : {Q : Expr → State → Type 0} (c : Clock) (f : ℕ) (es : Exprs) (s : State)
      → (is_base c ≡ true → Q (Expr.call f es) s) → (is_operator nodes f ≡ false → Q (Expr.call f es) s)
      → (is_base c ≡ false → is_operator nodes f ≡ true → (ds : Exprs) → Q (gate condact (flag_name new c s) f es ds) (with_condact (with_flag c s)))
      → Yields Q (call_on types nodes new condact node i c f es s)
  unfolding call_on operator_outputs is_operator
  call_on-yields base f es s h₀ h₁ h₂ = yields (h₀ refl)
  call_on-yields {Q} (c ↓ k) f es s h₀ h₁ h₂ = found (find (λ n. eqb n.name f) nodes) h₁ (h₂ refl)
    where
      Gated : Type 0
      Gated = (ds : Exprs) → Q (gate condact (flag_name new (c ↓ k) s) f es ds) (with_condact (with_flag (c ↓ k) s))

      is_op : Option Node → Bool
      is_op u = elim u as (λ x. Bool) [ none ↦ false | some n ↦ is_operator_kind n.kind ]

      outputs : Option Node → Option (List Declared)
      outputs u = elim u as (λ x. Option (List Declared)) [ none ↦ none | some n ↦ choose (is_operator_kind n.kind) (some n.outputs) none ]

      end : Option (List Declared) → Rewritten Expr
      end u = (elim u as (λ x. Rewriter Expr) [ none ↦ (λ s. done (Expr.call f es) s) | some outputs ↦ (λ s. after (flag new (c ↓ k) s) (λ a s₁. after (output_defaults types nodes new condact node i f outputs s₁) (λ ds s₂. gated condact a (Expr.call f es) ds s₂))) ]) s

      kind : (o : List Declared) (u : Bool) → (u ≡ false → Q (Expr.call f es) s) → (u ≡ true → Gated) → Yields Q (end (choose u (some o) none))
      kind o true p q = yields-after _ (outputs-same f o (with_flag (c ↓ k) s)) (λ ds s₁ e. yields (rw e (q refl ds)))
      kind o false p q = yields (p refl)

      found : (u : Option Node) → (is_op u ≡ false → Q (Expr.call f es) s) → (is_op u ≡ true → Gated) → Yields Q (end (outputs u))
      found none p q = yields (p refl)
      found (some n) p q = kind n.outputs (is_operator_kind n.kind) p q

  -- a `pre`: plain on base and of a bare name, else held
  pub pre_on-yields : {Q : Expr → State → Type 0} (c : Clock) (e f : Expr) (s : State)
      → (is_base c ≡ true → Q (Expr.pre f) s) → (shape_of e ≡ bare → Q (Expr.pre f) s)
      → (is_base c ≡ false → (t : Ty) → Q (Expr.pre (Expr.var (hold_name new s))) (with_hold (hold_of new c f t s) (with_flag c s)))
      → Yields Q (pre_on types nodes new condact node i c e f s)
  unfolding pre_on held_pre
  pre_on-yields {Q} c e f s h₀ h₁ h₂ = go (shape_of e) refl
    where
      typed : is_base c ≡ false → (o : Option Ty) → Yields Q (after (need i o pre_untyped (with_flag c s)) (λ t s₂. after (new_hold new t (λ h. if_of (Expr.var (flag_name new c s)) f (Expr.pre h)) s₂) (λ h s₃. done (Expr.pre h) s₃)))
      typed b none = stops
      typed b (some t) = yields (h₂ b t)

      on_base : (u : Bool) → is_base c ≡ u → Yields Q (choose {A = Rewriter Expr} u (λ s. done (Expr.pre f) s) (held_pre types nodes new condact node i c e f) s)
      on_base true b = yields (h₀ b)
      on_base false b = typed b (operand_type (declared node) e)

      go : (u : Shape) → shape_of e ≡ u
          → Yields Q ((elim u as (λ x. Rewriter Expr) [
            | bare ↦ (λ s. done (Expr.pre f) s)
            | other ↦ choose (is_base c) (λ s. done (Expr.pre f) s) (held_pre types nodes new condact node i c e f)
            | calls g ↦ choose (is_base c) (λ s. done (Expr.pre f) s) (held_pre types nodes new condact node i c e f)
          ]) s)
      go bare q = yields (h₁ q)
      go other q = on_base (is_base c) refl
      go (calls g) q = on_base (is_base c) refl

  -- a `->`
  pub arrow_on-yields : {Q : Expr → State → Type 0} (c : Clock) (a b : Expr) (s : State)
      → (is_base c ≡ true → Q (Expr.arrow a b) s) → (is_base c ≡ false → Q (if_of (Expr.var (first_name new c s)) a b) (with_first c s))
      → Yields Q (arrow_on types nodes new condact node i c a b s)
  unfolding arrow_on
  arrow_on-yields base a b s h₀ h₁ = yields (h₀ refl)
  arrow_on-yields (c ↓ k) a b s h₀ h₁ = yields (h₁ refl)

  -- several left names, or none: the call is gated with their defaults, unless it is `condact` by now
  pub gate_several-yields : {Q : Expr → State → Type 0} (xs : List ℕ) (a e : Expr) (s : State)
      → (shape_of e ≡ calls condact → Q e s) → ((f : ℕ) → shape_of e ≡ calls f → eqb f condact ≡ false → (ds : Exprs) → Q (Expr.call condact (Exprs.and a (Exprs.and e ds))) (with_condact s))
      → Yields Q (gate_several types nodes new condact node i xs a e s)
  unfolding gate_several
  gate_several-yields {Q} xs a e s h₀ h₁ = go (shape_of e) refl
    where
      gating : ℕ → Bool → Rewriter Expr
      gating f u = choose u (λ s. done e s) (λ s. after (left_defaults types nodes new condact node i xs s) (λ ds s₁. gated condact a e ds s₁))

      called : (f : ℕ) → shape_of e ≡ calls f → (u : Bool) → eqb f condact ≡ u → Yields Q (gating f u s)
      called f p true q = yields (h₀ (p ∙ ap calls (eqb-true f condact q)))
      called f p false q = yields-after _ (lefts-same xs s) (λ ds s₁ z. yields (rw z (h₁ f p q ds)))

      go : (u : Shape) → shape_of e ≡ u → Yields Q ((elim u as (λ x. Rewriter Expr) [ bare ↦ stop i Fault.not_single_call | other ↦ stop i Fault.not_single_call | calls f ↦ gating f (eqb f condact) ]) s)
      go bare p = stops
      go other p = stops
      go (calls f) p = called f p (eqb f condact) refl

  -- one left name
  pub single-yields : {Q : Expr → State → Type 0} (x : ℕ) (a e : Expr) (s : State) → ((d : Expr) → Q (if_of a e (Expr.arrow d (Expr.pre (Expr.var x)))) s)
      → Yields Q (under_flag types nodes new condact node i (x ∷ []) a e s)
  unfolding under_flag
  single-yields x a e s h = yields-after _ (left-same x s) (λ d s₁ q. yields (rw q (h d)))

-- the names that an expression reads meet P
abbrev pub Reads : (ℕ → Type 0) → Part → Type 0
Reads P (reads x) = P x
Reads P (callee f) = Unit {0}
Reads P (computes h) = Unit {0}

-- rewriting goes by such steps
module _ (types : List TypeDef) (nodes : List Node) (new : Stem → ℕ → ℕ) (condact : ℕ) (node : Node) (P : ℕ → Type 0) where
  abbrev Steps : {A : Type 0} → State → Rewritten A → Type 0
  Steps s r = Yields (λ a s'. Step P s s') r

  module _ (i : ℕ) where
    of-parent : (c : Clock) → OfClock P c → OfClock P (parent c)
    of-parent base o = tt
    of-parent (c ↓ k) o = o.1

    mutual
      unfolding rewrite Each

      pub rewrite-steps : (e : Expr) (c : Clock) (s : State) → OfClock P c → Each (Reads P) e → Steps s (rewrite types nodes new condact node i c e s)
      rewrite-steps (Expr.const v w) c s o r = yields (step-self P s)
      rewrite-steps (Expr.var x) c s o r = yields (step-self P s)
      rewrite-steps (Expr.op h es) c s o r = yields-after _ (rewrites-steps es c s o r.1) (λ fs s₁ p. yields p)
      rewrite-steps (Expr.pre e) c s o r = yields-after _ (rewrite-steps e c s o r) (λ f s₁ p.
          pre_on-yields types nodes new condact node i c e f s₁ (λ b. p) (λ b. p)
          (λ b t. step-trans P s s₁ _ p (step-trans P s₁ (with_flag c s₁) _ (step-flag P c s₁ o) (step-hold P _ (with_flag c s₁)))))
      rewrite-steps (Expr.arrow a b) c s o r = yields-after _ (rewrite-steps a c s o r.0) (λ d s₁ p. yields-after _ (rewrite-steps b c s₁ o r.1) (λ e s₂ q.
          let pq = step-trans P s s₁ s₂ p q in
          arrow_on-yields types nodes new condact node i c d e s₂ (λ b. pq) (λ b. step-trans P s s₂ (with_first c s₂) pq (step-first P c s₂ b o))))
      rewrite-steps (Expr.call f es) c s o r = yields-after _ (rewrites-steps es c s o r.1) (λ fs s₁ p.
          call_on-yields types nodes new condact node i c f fs s₁ (λ b. p) (λ b. p)
          (λ b u ds. step-trans P s s₁ _ p (step-trans P s₁ (with_flag c s₁) _ (step-flag P c s₁ o) (step-condact P (with_flag c s₁)))))
      rewrite-steps (Expr.when k e) c s o r = rewrite-steps e (parent c) s (of-parent c o) r.1
      rewrite-steps (Expr.merge x a b) c s o r = yields-after _ (rewrite-steps a (c ↓ is_on x) s (r.0, o) r.1) (λ d s₁ p.
          yields-after _ (rewrite-steps b (c ↓ is_not x) s₁ (r.0, o) r.2) (λ e s₂ q. yields (step-trans P s s₁ s₂ p q)))

      rewrites-steps : (es : Exprs) (c : Clock) (s : State) → OfClock P c → Eachs (Reads P) es → Steps s (rewrites types nodes new condact node i c es s)
      rewrites-steps Exprs.end c s o r = yields (step-self P s)
      rewrites-steps (Exprs.and e es) c s o r = yields-after _ (rewrite-steps e c s o r.0) (λ f s₁ p.
          yields-after _ (rewrites-steps es c s₁ o r.1) (λ fs s₂ q. yields (step-trans P s s₁ s₂ p q)))

    under_flag-steps : (xs : List ℕ) (a e : Expr) (s : State) → Steps s (under_flag types nodes new condact node i xs a e s)
    unfolding under_flag
    under_flag-steps [] a e s = gate_several-yields types nodes new condact node i [] a e s (λ q. step-self P s) (λ f q u ds. step-condact P s)
    under_flag-steps (x ∷ []) a e s = single-yields types nodes new condact node i x a e s (λ d. step-self P s)
    under_flag-steps (x ∷ y ∷ xs) a e s = gate_several-yields types nodes new condact node i (x ∷ y ∷ xs) a e s (λ q. step-self P s) (λ f q u ds. step-condact P s)

    -- an equation
    pub right_side-steps : (c : Clock) (xs : List ℕ) (e : Expr) (s : State) → OfClock P c → Each (Reads P) e → Steps s (right_side types nodes new condact node i c xs e s)
    unfolding right_side
    right_side-steps base xs e s o r = yields-after _ (rewrite-steps e base s o r) (λ f s₁ p. yields p)
    right_side-steps (c ↓ k) xs e s o r = yields-after _ (rewrite-steps e (c ↓ k) s o r) (λ f s₁ p.
        yields-map (λ g s₂ q. step-trans P s (with_flag (c ↓ k) s₁) s₂ (step-trans P s s₁ (with_flag (c ↓ k) s₁) p (step-flag P (c ↓ k) s₁ o)) q)
        (under_flag-steps xs (Expr.var (flag_name new (c ↓ k) s₁)) f (with_flag (c ↓ k) s₁)))

  -- the equations
  pub old_equations-steps : (i : ℕ) (es : List Clocked) (s : State) → ((e : Clocked) → Memᴰ e es → OfClock P e.clock × Each (Reads P) e.equation.right)
      → Steps s (old_equations types nodes new condact node i es s)
  unfolding old_equations
  old_equations-steps i [] s r = yields (step-self P s)
  old_equations-steps i (e ∷ es) s r =
      let o = r e (Memᴰ.head refl) in
      yields-after _ (right_side-steps i e.clock e.equation.left e.equation.right s o.0 o.1) (λ f s₁ p.
      yields-after _ (old_equations-steps (suc i) es s₁ (λ d m. r d (Memᴰ.tail m))) (λ fs s₂ q. yields (step-trans P s s₁ s₂ p q)))
