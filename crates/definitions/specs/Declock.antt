-- Rewriting a node onto the base clock: document 01, "declock.rs".
use Rattle.std.specs.Prelude.{ℕ, suc, Bool, true, false, eqb, length}
use mathlib.Core.List.{List, [], ◌∷◌, ◌++◌, map}
use Rattle.std.proofs.Math.Option.{Option, none, some}
use Rattle.definitions.specs.declared.UnaryOp.{UnaryOp}
use Rattle.definitions.specs.declared.BinOp.{BinOp}
use Rattle.definitions.specs.declared.Primitive.{Primitive}
use Rattle.definitions.specs.declared.Literal.{Literal}
use Rattle.definitions.specs.declared.NodeKind.{NodeKind}
use Rattle.definitions.specs.declared.Test.{Test}
use Rattle.definitions.specs.declared.Condition.{Condition}
use Rattle.definitions.specs.Lists.{choose, any, find, place_by, numbered, or_else, Letters}
use Rattle.definitions.specs.Tree.{Ty, Declared, TypeDef, Head, Expr, Exprs, Equation, Node}
use Rattle.definitions.specs.Clock.{Clock, base, ◌↓◌, parent, is_on, is_not, same_clock, is_base, in_chain_order}
use Rattle.definitions.specs.Types.{default}
use Rattle.definitions.specs.InferClocks.{Fault, undeclared, no_default, no_output_default, not_single_call, pre_untyped, NodeFault, Clocked}

-- a node's declared names, in order
abbrev pub declared : Node → List Declared
declared n = n.inputs ++ (n.outputs ++ n.locals)

-- the type of a name: "its last declaration's"
unfoldable pub last_type : List Declared → ℕ → Option Ty
last_type [] x = none
last_type (d ∷ ds) x = or_else (last_type ds x) (choose (eqb d.name x) (some d.type) none)

-- a constant's type: "Int gives Int32, Float Float64"
abbrev pub literal_type : Literal → Primitive
literal_type (Literal.Bool v) = Primitive.Bool
literal_type (Literal.Int v) = Primitive.Int32
literal_type (Literal.Float v) = Primitive.Float64
literal_type (Literal.Char v) = Primitive.Char

-- an array type's element type
abbrev pub element : Option Ty → Option Ty
element none = none
element (some (Ty.primitive p)) = none
element (some (Ty.array n t)) = some t
element (some (Ty.named x)) = none

-- of the forms that compute only an index has a type: its first operand's element type
abbrev pub form_type : Head → Option Ty → Option Ty
form_type Head.index t = element t
form_type Head.if t = none
form_type Head.tuple t = none
form_type Head.array t = none
form_type (Head.unary o) t = none
form_type (Head.binary o) t = none
form_type (Head.field x) t = none
form_type (Head.struct x fs) t = none
form_type (Head.cast a) t = none
form_type (Head.map f k) t = none
form_type (Head.fold f k) t = none

-- "only declared names, constants, and when, `pre`, `->` or, for arrays, index over such have one
-- (Int gives Int32, Float Float64; `->` its right's, else its left's .."
unfoldable mutual
  unfolding last_type

  pub operand_type : List Declared → Expr → Option Ty
  operand_type ds (Expr.const l w) = some (Ty.primitive (literal_type l))
  operand_type ds (Expr.var x) = last_type ds x
  operand_type ds (Expr.op h es) = form_type h (first_type ds es)
  operand_type ds (Expr.pre e) = operand_type ds e
  operand_type ds (Expr.arrow a b) = or_else (operand_type ds b) (operand_type ds a)
  operand_type ds (Expr.call f es) = none
  operand_type ds (Expr.when k e) = operand_type ds e
  operand_type ds (Expr.merge x a b) = none

  -- the type of the first of some operands
  pub first_type : List Declared → Exprs → Option Ty
  first_type ds Exprs.end = none
  first_type ds (Exprs.and e es) = operand_type ds e

-- a new local that holds the operand of a `pre`
pub record Hold : Type 0 where
  pub type : Ty
  pub right : Expr

-- what rewriting a node has needed so far, "in order of need": the clocks with an activation flag, those with a
-- first-tick flag, the holds as made, whether `condact`
pub record State : Type 0 where
  pub flags : List Clock
  pub firsts : List Clock
  pub holds : List Hold
  pub condact : Bool

-- nothing is needed yet
abbrev pub nothing_needed : State
nothing_needed = record { flags = []; firsts = []; holds = []; condact = false }

-- rewriting goes on from a state, or stops at the first fault
pub data Rewritten (A : Type 0) : Type 0 where
  stopped : NodeFault → Rewritten A
  done : A → State → Rewritten A

-- a step of rewriting, from a state
abbrev pub Rewriter : Type 0 → Type 0
Rewriter A = State → Rewritten A

infixl 20 ◌>>=◌
-- what follows where no fault was met
abbrev pub after : {A B : Type 0} → Rewritten A → (A → Rewriter B) → Rewritten B
after (stopped f) g = stopped f
after (done a s) g = g a s

-- one step, then another
abbrev pub ◌>>=◌ : {A B : Type 0} → Rewriter A → (A → Rewriter B) → Rewriter B
r >>= f = λ s. after (r s) f

-- nothing more is needed
abbrev pub return : {A : Type 0} → A → Rewriter A
return a = λ s. done a s

-- the place of a clock among clocks
abbrev pub clock_place : Clock → List Clock → ℕ
clock_place c cs = place_by (same_clock c) cs

-- a clock added at the end, if it is not there
abbrev pub add : Clock → List Clock → List Clock
add c cs = choose (any (same_clock c) cs) cs (cs ++ (c ∷ []))

-- a clock's flag needs its parents' first
unfoldable pub add_with_parents : Clock → List Clock → List Clock
add_with_parents base cs = cs
add_with_parents (c ↓ k) cs = add (c ↓ k) (add_with_parents c cs)

-- the three kinds of new names
pub data Stem : Type 0 where
  ck first hold : Stem

-- the constant true
abbrev pub true_of : Expr
true_of = Expr.const (Literal.Bool 1) 0

-- not a
abbrev pub not_of : Expr → Expr
not_of a = Expr.op (Head.unary UnaryOp.Not) (Exprs.and a Exprs.end)

-- a and b
abbrev pub and_of : Expr → Expr → Expr
and_of a b = Expr.op (Head.binary BinOp.And) (Exprs.and a (Exprs.and b Exprs.end))

-- if a then b else c
abbrev pub if_of : Expr → Expr → Expr → Expr
if_of a b c = Expr.op Head.if (Exprs.and a (Exprs.and b (Exprs.and c Exprs.end)))

-- what rewriting asks of an expression: is it a bare name, is it a call and of what
pub data Shape : Type 0 where
  bare other : Shape
  calls : ℕ → Shape

abbrev pub shape_of : Expr → Shape
shape_of (Expr.var x) = bare
shape_of (Expr.call f es) = calls f
shape_of (Expr.const l w) = other
shape_of (Expr.op h es) = other
shape_of (Expr.pre e) = other
shape_of (Expr.arrow a b) = other
shape_of (Expr.when k e) = other
shape_of (Expr.merge x a b) = other

-- new names: `new` gives the id of the j-th new name of a stem
module _ (new : Stem → ℕ → ℕ) where
  -- a clock's activation flag
  unfoldable pub flag : Clock → Rewriter Expr
  unfolding add_with_parents
  flag c = λ s.
      let flags = add_with_parents c s.flags in
      done (Expr.var (new ck (clock_place c flags))) (record { flags = flags; firsts = s.firsts; holds = s.holds; condact = s.condact })

  -- a clock's first-tick flag
  unfoldable pub first_flag : Clock → Rewriter Expr
  unfolding add_with_parents
  first_flag c = λ s.
      let firsts = add c s.firsts in
      done (Expr.var (new first (clock_place c firsts))) (record { flags = add_with_parents c s.flags; firsts = firsts; holds = s.holds; condact = s.condact })

  -- a new hold of this type; its right side names it
  unfoldable pub new_hold : Ty → (Expr → Expr) → Rewriter Expr
  new_hold t right = λ s.
      let h = Expr.var (new hold (length s.holds)) in
      done h (record { flags = s.flags; firsts = s.firsts; holds = s.holds ++ (record { type = t; right = right h } ∷ []); condact = s.condact })

-- a call gated by `condact`: the flag, the call, the defaults
unfoldable pub gated : ℕ → Expr → Expr → Exprs → Rewriter Expr
gated condact a e ds = λ s.
    done (Expr.call condact (Exprs.and a (Exprs.and e ds))) (record { flags = s.flags; firsts = s.firsts; holds = s.holds; condact = true })

-- the fault that equation i stops at
abbrev pub stop : {A : Type 0} → ℕ → Fault → Rewriter A
stop i f = λ s. stopped (record { equation = i; fault = f })

-- what there must be, else a fault of equation i
abbrev pub need : {A : Type 0} → ℕ → Option A → Fault → Rewriter A
need i none f = stop i f
need i (some a) f = return a

-- is it an operator?
abbrev pub is_operator_kind : NodeKind → Bool
is_operator_kind NodeKind.Function = false
is_operator_kind NodeKind.Operator = true
is_operator_kind NodeKind.Imported = false

-- the outputs of an operator of this name; "the first of a name is found"
unfoldable pub operator_outputs : List Node → ℕ → Option (List Declared)
operator_outputs nodes f = elim (find (λ n. eqb n.name f) nodes) [ none ↦ none | some n ↦ choose (is_operator_kind n.kind) (some n.outputs) none ]

-- rewriting of equation i of a node, in a sheet with these types and nodes; `condact` is the id of that name
module _ (types : List TypeDef) (nodes : List Node) (new : Stem → ℕ → ℕ) (condact : ℕ) (node : Node) where
  module _ (i : ℕ) where
    -- the defaults of a call's outputs
    unfoldable pub output_defaults : ℕ → List Declared → Rewriter Exprs
    unfolding default
    output_defaults f [] = return Exprs.end
    output_defaults f (d ∷ ds) =
        need i (default types d.type) (no_output_default d.name f) >>= λ e.
        output_defaults f ds >>= λ es.
        return (Exprs.and e es)

    -- the default of a left name
    unfoldable pub left_default : ℕ → Rewriter Expr
    unfolding default last_type
    left_default x = need i (last_type (declared node) x) (undeclared x) >>= λ t. need i (default types t) (no_default x)

    -- the defaults of several left names
    unfoldable pub left_defaults : List ℕ → Rewriter Exprs
    unfolding left_default
    left_defaults [] = return Exprs.end
    left_defaults (x ∷ xs) = left_default x >>= λ e. left_defaults xs >>= λ es. return (Exprs.and e es)

    -- "On a clock only operators' calls are gated, by condact with their outputs' defaults"
    unfoldable pub call_on : Clock → ℕ → Exprs → Rewriter Expr
    unfolding flag gated output_defaults operator_outputs
    call_on c f es =
        elim (choose (is_base c) none (operator_outputs nodes f)) [
          | none ↦ return (Expr.call f es)
          | some outputs ↦ flag new c >>= λ a. output_defaults f outputs >>= λ ds. gated condact a (Expr.call f es) ds
        ]

    -- a `pre` that needs a hold: its operand's value is held where the clock is off
    unfoldable pub held_pre : Clock → Expr → Expr → Rewriter Expr
    unfolding flag new_hold operand_type
    held_pre c operand rewritten =
        flag new c >>= λ a.
        need i (operand_type (declared node) operand) pre_untyped >>= λ t.
        new_hold new t (λ h. if_of a rewritten (Expr.pre h)) >>= λ h.
        return (Expr.pre h)

    -- "`pre` of a bare name is plain `pre` on every clock. Of anything else, on a clock, it needs a type"
    unfoldable pub pre_on : Clock → Expr → Expr → Rewriter Expr
    unfolding held_pre
    pre_on c operand rewritten =
        elim (shape_of operand) [
          | bare ↦ return (Expr.pre rewritten)
          | other ↦ choose (is_base c) (return (Expr.pre rewritten)) (held_pre c operand rewritten)
          | calls f ↦ choose (is_base c) (return (Expr.pre rewritten)) (held_pre c operand rewritten)
        ]

    -- `->` on a clock takes its left at the clock's first tick
    unfoldable pub arrow_on : Clock → Expr → Expr → Rewriter Expr
    unfolding first_flag
    arrow_on c a b = choose (is_base c) (return (Expr.arrow a b)) (first_flag new c >>= λ f. return (if_of f a b))

    -- an expression that runs on clock c. A when runs its operand on the parent: checking has matched c's last condition with it.
    unfoldable mutual
      unfolding call_on pre_on arrow_on

      pub rewrite : Clock → Expr → Rewriter Expr
      rewrite c (Expr.const l w) = return (Expr.const l w)
      rewrite c (Expr.var x) = return (Expr.var x)
      rewrite c (Expr.op h es) = rewrites c es >>= λ fs. return (Expr.op h fs)
      rewrite c (Expr.pre e) = rewrite c e >>= λ f. pre_on c e f
      rewrite c (Expr.arrow a b) = rewrite c a >>= λ d. rewrite c b >>= λ e. arrow_on c d e
      rewrite c (Expr.call f es) = rewrites c es >>= λ fs. call_on c f fs
      rewrite c (Expr.when k e) = rewrite (parent c) e
      rewrite c (Expr.merge x a b) = rewrite (c ↓ is_on x) a >>= λ d. rewrite (c ↓ is_not x) b >>= λ e. return (if_of (Expr.var x) d e)

      pub rewrites : Clock → Exprs → Rewriter Exprs
      rewrites c Exprs.end = return Exprs.end
      rewrites c (Exprs.and e es) = rewrite c e >>= λ f. rewrites c es >>= λ fs. return (Exprs.and f fs)

    -- "several left names need a call after rewriting, gated with their own.
    -- There a call by then named `condact` stays as it is."
    unfoldable pub gate_several : List ℕ → Expr → Expr → Rewriter Expr
    unfolding left_defaults gated
    gate_several xs a e =
        elim (shape_of e) [
          | bare ↦ stop i not_single_call
          | other ↦ stop i not_single_call
          | calls f ↦ choose (eqb f condact) (return e) (left_defaults xs >>= λ ds. gated condact a e ds)
        ]

    -- a right side e under the flag a of its clock: a single left name holds its value where the clock is off
    unfoldable pub under_flag : List ℕ → Expr → Expr → Rewriter Expr
    unfolding left_default gate_several
    under_flag [] a e = gate_several [] a e
    under_flag (x ∷ []) a e = left_default x >>= λ d. return (if_of a e (Expr.arrow d (Expr.pre (Expr.var x))))
    under_flag (x ∷ y ∷ xs) a e = gate_several (x ∷ y ∷ xs) a e

    -- an equation's new right side, its clock being c
    unfoldable pub right_side : Clock → List ℕ → Expr → Rewriter Expr
    unfolding rewrite flag under_flag
    right_side c xs e = rewrite c e >>= λ f. choose (is_base c) (return f) (flag new c >>= λ a. under_flag xs a f)

  -- the old equations, in order
  unfoldable pub old_equations : ℕ → List Clocked → Rewriter (List Equation)
  unfolding right_side
  old_equations i [] = return []
  old_equations i (e ∷ es) =
      right_side i e.clock e.equation.left e.equation.right >>= λ r.
      old_equations (suc i) es >>= λ rest.
      return (record { left = e.equation.left; right = r } ∷ rest)

-- a new local with its equation
pub record New : Type 0 where
  pub stem : Stem
  pub number : ℕ
  pub type : Ty
  pub right : Expr

-- a condition as an expression
abbrev pub condition_expr : Condition → Expr
condition_expr k = elim k.test [ Test.On ↦ Expr.var k.name | Test.Not ↦ not_of (Expr.var k.name) ]

-- the new locals of a rewriting that ended in a state
module _ (letters : ℕ → Letters) (new : Stem → ℕ → ℕ) (s : State) where
  -- a clock's activation flag, needed before
  abbrev pub flag_of : Clock → Expr
  flag_of c = Expr.var (new ck (clock_place c s.flags))

  -- a clock's condition, and its parent's flag where the parent is not base; base, which has no flag, is always on
  abbrev pub activation : Clock → Expr
  activation base = true_of
  activation (c ↓ k) = choose (is_base c) (condition_expr k) (and_of (flag_of c) (condition_expr k))

  -- true until the clock has been on at a tick before
  abbrev pub first_tick : Clock → Expr
  first_tick c =
      let f = Expr.var (new first (clock_place c s.firsts)) in
      Expr.arrow true_of (and_of (Expr.pre f) (not_of (Expr.pre (flag_of c))))

  -- the type Bool
  abbrev pub boolean : Ty
  boolean = Ty.primitive Primitive.Bool

  -- "activation flags, then first-tick flags, both in chain order, then holds as made"
  unfoldable pub new_locals : List New
  unfolding in_chain_order
  new_locals =
      map (λ c. record { stem = ck; number = clock_place c s.flags; type = boolean; right = activation c }) (in_chain_order letters s.flags)
      ++ (map (λ c. record { stem = first; number = clock_place c s.firsts; type = boolean; right = first_tick c }) (in_chain_order letters s.firsts)
      ++ numbered (λ j h. record { stem = hold; number = j; type = h.type; right = h.right }) 0 s.holds)

-- the node with its new locals behind its own, and "the old equations follow in order"
unfoldable pub with_new : (Stem → ℕ → ℕ) → Node → List New → List Equation → Node
with_new new n news old =
    record {
      name = n.name;
      kind = n.kind;
      inputs = n.inputs;
      outputs = n.outputs;
      locals = n.locals ++ map (λ l. record { name = new l.stem l.number; type = l.type }) news;
      equations = map (λ l. record { left = new l.stem l.number ∷ []; right = l.right }) news ++ old;
      probes = n.probes;
    }
