-- What a node does, tick by tick: document 01, "A run".
use Rattle.std.specs.Prelude.{◌≡◌, Bool, false, not, ◌&&◌, ℕ, zero, suc, ◌<◌, eqb}
use Rattle.std.proofs.Math.Bool.{true}
use mathlib.Core.List.{List, [], ◌∷◌, map}
use Rattle.std.proofs.Math.Option.{Option, none, some}
use Rattle.definitions.specs.declared.UnaryOp.{UnaryOp}
use Rattle.definitions.specs.declared.BinOp.{BinOp}
use Rattle.definitions.specs.declared.Literal.{Literal}
use Rattle.definitions.specs.declared.Test.{Test}
use Rattle.definitions.specs.Lists.{choose}
use Rattle.definitions.specs.Tree.{Head, Expr, Exprs, Equation, Node}
use Rattle.definitions.specs.Clock.{Clock, base, ◌↓◌, parent, is_on, is_not}
use Rattle.definitions.specs.InferClocks.{clock_of, Clocked}
use Rattle.definitions.specs.Output.{ClockedNode}
use Rattle.runs.specs.Callees.{is_declared, Callees}

-- "Every form but `pre`, `->`, when, merge, operators' calls and `condact` is a fixed function; an undeclared name has a fixed value.
-- Fixed is the same at every tick, in source and rewritten node; demand 3 holds whatever it is, within what follows."
-- What is fixed, for one type of values, and all that is assumed of it.
pub record Meaning (Val : Type 0) : Type 0 where
  -- is a value true?
  pub is_true : Val → Bool
  -- a constant, with the high word of an int or float
  pub const : Literal → ℕ → Val
  -- each form that only computes
  pub form : Head → List Val → Val
  -- a call of a function, of an imported node or of an unknown name
  pub function : ℕ → List Val → Val
  -- "An operator's call is a fixed function of its arguments at the ticks of its clock so far": the latest first; fixed by the name called
  pub operator : ℕ → List (List Val) → Val
  -- "Several left names take a value's parts.": the j-th part
  pub part : ℕ → Val → Val
  -- no default of a `condact`, or several, as one value
  pub together : List Val → Val
  -- an undeclared name
  pub undeclared : ℕ → Val
  -- "The constant bool(1) is true."
  pub one-true : is_true (const (Literal.Bool 1) 0) ≡ true
  -- "`not` is true except of true"
  pub not-law : (v : Val) → is_true (form (Head.unary UnaryOp.Not) (v ∷ [])) ≡ not (is_true v)
  -- "`and` is true of two trues, else false"
  pub and-law : (v w : Val) → is_true (form (Head.binary BinOp.And) (v ∷ w ∷ [])) ≡ (is_true v && is_true w)
  -- "An if takes its second operand where the first is true, else the third"
  pub if-law : (u v w : Val) → form Head.if (u ∷ v ∷ w ∷ []) ≡ choose (is_true u) v w

-- the last tick before t at which p holds; "nothing precedes the first tick"
abbrev pub last : (ℕ → Bool) → ℕ → Option ℕ
last p zero = none
last p (suc t) = choose (p t) (some t) (last p t)

-- what f gives at the ticks before t at which p holds, the latest first
abbrev pub so_far : {A : Type 0} → (ℕ → Bool) → (ℕ → A) → ℕ → List A
so_far p f zero = []
so_far p f (suc t) = choose (p t) (f t ∷ so_far p f t) (so_far p f t)

-- where there is a last tick, what f gives then, else a
abbrev pub since : {A : Type 0} → Option ℕ → A → (ℕ → A) → A
since none a f = a
since (some s) a f = f s

-- a value for each name at each tick; off its clock a name's value means nothing (`Kept`)
abbrev pub Env : Type 0 → Type 0
Env Val = ℕ → ℕ → Val

-- a place in an expression or in a list of equations: at each fork the first part (false) or the rest (true)
abbrev pub Where : Type 0
Where = List Bool

-- what each `pre` gives at the first tick of its clock: "anything at the first, each `pre` for itself"
abbrev pub Unset : Type 0 → Type 0
Unset Val = Where → Val

-- the unset values of the first part
abbrev pub in₀ : {Val : Type 0} → Unset Val → Unset Val
in₀ α w = α (false ∷ w)

-- the unset values of the rest
abbrev pub in₁ : {Val : Type 0} → Unset Val → Unset Val
in₁ α w = α (true ∷ w)

-- an expression's values; and of a call itself, what it gives at a tick on a clock of just some ticks (`condact` asks this of its
-- second argument)
pub record Stream (Val : Type 0) : Type 0 where
  pub at : ℕ → Val
  pub call : Option ((ℕ → Bool) → ℕ → Val)

-- the stream of something that is no call
abbrev pub stream_of : {Val : Type 0} → (ℕ → Val) → Stream Val
stream_of f = record { at = f; call = none }

-- the values of some streams at a tick
abbrev pub values_at : {Val : Type 0} → List (Stream Val) → ℕ → List Val
values_at [] t = []
values_at (d ∷ ds) t = d.at t ∷ values_at ds t

module _ {Val : Type 0} (M : Meaning Val) where
  open M use {is_true, const, form, function, operator, part, together, undeclared}

  -- the test of a condition: "the name is true (on) or isn't (not)"
  abbrev pub meets : Test → Val → Bool
  meets Test.On v = is_true v
  meets Test.Not v = not (is_true v)

  -- "base is always on. A condition is on when its parent is and the name is true (on) or isn't (not)."
  unfoldable pub on : Env Val → Clock → ℕ → Bool
  on σ base t = true
  on σ (c ↓ k) t = on σ c t && meets k.test (σ k.name t)

  -- "d before the first (fixed if none)"
  abbrev pub before : List Val → Val
  before [] = together []
  before (v ∷ []) = v
  before (v ∷ w ∷ vs) = together (v ∷ w ∷ vs)

  -- left names from the j-th part on take a value's parts
  unfoldable pub TakesParts : Env Val → ℕ → List ℕ → ℕ → Val → Type 0
  TakesParts σ j [] t v = Unit {0}
  TakesParts σ j (x ∷ xs) t v = (σ x t ≡ part j v) × TakesParts σ (suc j) xs t v

  -- a left name takes a value; "Several left names take a value's parts."
  unfoldable pub Takes : Env Val → List ℕ → ℕ → Val → Type 0
  unfolding TakesParts
  Takes σ [] t v = Unit {0}
  Takes σ (x ∷ []) t v = σ x t ≡ v
  Takes σ (x ∷ y ∷ ys) t v = TakesParts σ 0 (x ∷ y ∷ ys) t v

  -- a declared name has its value, an undeclared one its fixed value
  abbrev pub seen : Node → Env Val → Env Val
  seen node ρ x t = choose (is_declared node x) (ρ x t) (undeclared x)

  -- ρ kept to each name's clock is ρ': "at each tick on its clock (without one .. at every tick)" a declared name has the same value
  unfoldable pub Kept : ClockedNode → ℕ → Env Val → Env Val → Type 0
  unfolding on clock_of
  Kept n ticks ρ ρ' =
      (x t : ℕ) → t < ticks → is_declared n.node x ≡ true
      → ((c : Clock) → clock_of n.clocking.names x ≡ some c → on (seen n.node ρ) c t ≡ true) → ρ x t ≡ ρ' x t

  -- in a sheet that reads called names so
  module _ (C : Callees) where
    -- what a call of f, no `condact`, gives at tick t, p being the ticks of its clock and g its arguments
    unfoldable pub called_at : ℕ → (ℕ → List Val) → (ℕ → Bool) → ℕ → Val
    called_at f g p t = choose (C.operators f) (operator f (so_far p g (suc t))) (function f (g t))

    -- what a gated call g gives, q being the ticks at which it runs: "and holds, d before the first"
    abbrev pub held_at : ((ℕ → Bool) → ℕ → Val) → List Val → (ℕ → Bool) → ℕ → Val
    held_at g ds q t = since (last q (suc t)) (before ds) (g q)

    -- "`condact(a, f(e), d)`, f of any kind, e going on at every tick, gives where a is true what the call f(e) gives
    -- on a clock of just those ticks"; of other arguments, something fixed
    unfoldable pub gated_at : List (Stream Val) → (ℕ → Bool) → ℕ → Val
    gated_at [] p t = function C.condact []
    gated_at (a ∷ []) p t = function C.condact (a.at t ∷ [])
    gated_at (a ∷ e ∷ ds) p t =
        elim e.call [
          | none ↦ function C.condact (values_at (a ∷ e ∷ ds) t)
          | some g ↦ held_at g (values_at ds t) (λ s. p s && is_true (a.at s)) t
        ]

    -- what any call gives, by its arguments
    abbrev pub call_at : ℕ → List (Stream Val) → (ℕ → Bool) → ℕ → Val
    call_at f es p t = choose (eqb f C.condact) (gated_at es p t) (called_at f (values_at es) p t)

    -- an expression on clock c, under the unset values α. "A part's clock is the one that checking goes down to there."
    -- "`pre` gives its operand one tick of its clock ago, anything at the first ..; `->` its left at the first tick, then its right."
    -- "a when takes its operand, a merge the branch whose condition is on"; checking has matched the last condition of a when's clock
    -- with its own, so that its operand is on the parent.
    unfoldable mutual
      unfolding on called_at gated_at

      pub stream : Expr → Env Val → Unset Val → Clock → Stream Val
      stream (Expr.const l w) σ α c = stream_of (λ t. const l w)
      stream (Expr.var x) σ α c = stream_of (σ x)
      stream (Expr.op h es) σ α c = stream_of (λ t. form h (values_at (streams es σ α c) t))
      stream (Expr.pre e) σ α c = stream_of (λ t. since (last (on σ c) t) (α []) (stream e σ (in₀ α) c).at)
      stream (Expr.arrow a b) σ α c = stream_of (λ t. since (last (on σ c) t) ((stream a σ (in₀ α) c).at t) (λ s. (stream b σ (in₁ α) c).at t))
      stream (Expr.call f es) σ α c = record { at = call_at f (streams es σ α c) (on σ c); call = some (call_at f (streams es σ α c)) }
      stream (Expr.when k e) σ α c = stream_of (stream e σ α (parent c)).at
      stream (Expr.merge x a b) σ α c = stream_of (λ t. choose (is_true (σ x t)) ((stream a σ (in₀ α) (c ↓ is_on x)).at t) ((stream b σ (in₁ α) (c ↓ is_not x)).at t))

      pub streams : Exprs → Env Val → Unset Val → Clock → List (Stream Val)
      streams Exprs.end σ α c = []
      streams (Exprs.and e es) σ α c = stream e σ (in₀ α) c ∷ streams es σ (in₁ α) c

    -- its value at a tick of its clock
    unfoldable pub value : Expr → Env Val → Unset Val → Clock → ℕ → Val
    unfolding stream
    value e σ α c t = (stream e σ α c).at t

    -- several values at a tick of their clock
    unfoldable pub values : Exprs → Env Val → Unset Val → Clock → ℕ → List Val
    unfolding stream
    values es σ α c t = values_at (streams es σ α c) t

    -- "every equation holds at each tick of its own clock": of the first n ticks
    unfoldable pub Holds : Env Val → ℕ → Clock → Equation → Unset Val → Type 0
    unfolding on Takes value
    Holds σ n c e α = (t : ℕ) → t < n → on σ c t ≡ true → Takes σ e.left t (value e.right σ α c t)

    -- each equation holds on its clock
    unfoldable pub AllHold : Env Val → ℕ → List Clocked → Unset Val → Type 0
    unfolding Holds
    AllHold σ n [] α = Unit {0}
    AllHold σ n (e ∷ es) α = Holds σ n e.clock e.equation (in₀ α) × AllHold σ n es (in₁ α)

    -- "A run over a list of ticks gives each declared name a value at each tick on its clock .., such that every equation holds":
    -- ρ over the first n ticks, of a node whose equations are on these clocks, under the unset values α
    unfoldable pub RunWith : List Clocked → Node → ℕ → Env Val → Unset Val → Type 0
    unfolding AllHold
    RunWith es node n ρ α = AllHold (seen node ρ) n es α

    -- a run, whatever the unset values
    unfoldable pub RunOn : List Clocked → Node → ℕ → Env Val → Type 0
    unfolding RunWith
    RunOn es node n ρ = (α : Unset Val) × RunWith es node n ρ α

    -- a run of a source node, each equation on its clock
    unfoldable pub SourceRun : ClockedNode → ℕ → Env Val → Type 0
    unfolding RunOn
    SourceRun n ticks ρ = RunOn n.clocking.equations n.node ticks ρ

    -- a run of a rewritten node: "in a rewritten node, at every tick"
    unfoldable pub RewrittenRun : Node → ℕ → Env Val → Type 0
    unfolding RunOn
    RewrittenRun node ticks ρ = RunOn (map (λ e. record { clock = base; equation = e }) node.equations) node ticks ρ
