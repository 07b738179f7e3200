-- Rewriting an expression without a state: the ids of new names are known, and so is how many holds there are before.
use Rattle.std.specs.Prelude.{ℕ, suc, eqb}
use mathlib.Core.List.{List, [], ◌∷◌, ◌++◌}
use Rattle.std.proofs.Math.Option.{Option, none, some}
use Rattle.definitions.specs.declared.Primitive.{Primitive}
use Rattle.definitions.specs.declared.Literal.{Literal}
use Rattle.definitions.specs.Lists.{choose}
use Rattle.definitions.specs.Tree.{Ty, Declared, TypeDef, Expr, Exprs, Equation, Node}
use Rattle.definitions.specs.Clock.{Clock, ◌↓◌, parent, is_on, is_not, is_base}
use Rattle.definitions.specs.Types.{default}
use Rattle.definitions.specs.InferClocks.{Clocked}
use Rattle.definitions.specs.Declock.{Hold, Shape, bare, other, calls, shape_of, if_of, declared, last_type, operand_type, operator_outputs}
use Rattle.stateless.specs.Need.{Turn, is_bare, pre_turn}

-- the ids of new names: of a clock's activation flag, of its first-tick flag, of a hold by its number; and of `condact`
pub record Ids : Type 0 where
  pub flag : Clock → ℕ
  pub first : Clock → ℕ
  pub hold : ℕ → ℕ
  pub condact : ℕ

-- what rewriting yields: a value, the holds that it makes, and how many holds there are then
pub record Yield (A : Type 0) : Type 0 where
  pub value : A
  pub holds : List Hold
  pub after : ℕ

abbrev pub still : {A : Type 0} → A → ℕ → Yield A
still a n = record { value = a; holds = []; after = n }

abbrev pub mapped : {A B : Type 0} → (A → B) → Yield A → Yield B
mapped f y = record { value = f y.value; holds = y.holds; after = y.after }

abbrev pub joined : {A B C : Type 0} → (A → B → C) → Yield A → Yield B → Yield C
joined f y z = record { value = f y.value z.value; holds = y.holds ++ z.holds; after = z.after }

-- a type, an expression; where there is none a fault was met before, and anything stands in
abbrev pub type_or : Option Ty → Ty
type_or none = Ty.primitive Primitive.Bool
type_or (some t) = t

abbrev pub expr_or : Option Expr → Expr
expr_or none = Expr.const (Literal.Bool 0) 0
expr_or (some e) = e

-- the default of a type that may be unknown
abbrev pub default_or : List TypeDef → Option Ty → Expr
default_or types none = expr_or none
default_or types (some t) = expr_or (default types t)

module _ (types : List TypeDef) (nodes : List Node) (node : Node) where
  -- the defaults of a call's outputs
  unfoldable pub output_trees : List Declared → Exprs
  unfolding default
  output_trees [] = Exprs.end
  output_trees (d ∷ ds) = Exprs.and (expr_or (default types d.type)) (output_trees ds)

  -- the default of a left name, and of several
  unfoldable pub left_tree : ℕ → Expr
  unfolding default last_type
  left_tree x = default_or types (last_type (declared node) x)

  unfoldable pub left_trees : List ℕ → Exprs
  unfolding left_tree
  left_trees [] = Exprs.end
  left_trees (x ∷ xs) = Exprs.and (left_tree x) (left_trees xs)

  -- the outputs of the operator that a call on this clock gates
  abbrev pub gate_of : Clock → ℕ → Option (List Declared)
  gate_of c f = choose (is_base c) none (operator_outputs nodes f)

  -- what an expression on this clock is after rewriting: a bare name, a call and of what, or anything else
  unfoldable pub shape_after : ℕ → Clock → Expr → Shape
  unfolding operator_outputs
  shape_after condact c (Expr.const l w) = other
  shape_after condact c (Expr.var x) = bare
  shape_after condact c (Expr.op h es) = other
  shape_after condact c (Expr.pre e) = other
  shape_after condact c (Expr.arrow a b) = other
  shape_after condact c (Expr.call f es) = elim (gate_of c f) [ none ↦ calls f | some os ↦ calls condact ]
  shape_after condact c (Expr.when k e) = shape_after condact (parent c) e
  shape_after condact c (Expr.merge x a b) = other

  module _ (ids : Ids) where
    -- a `pre` that needs a hold of this type
    abbrev pub held : Clock → Ty → Yield Expr → Yield Expr
    held c t y =
        record {
          value = Expr.pre (Expr.var (ids.hold y.after));
          holds = y.holds ++ (record { type = t; right = if_of (Expr.var (ids.flag c)) y.value (Expr.pre (Expr.var (ids.hold y.after))) } ∷ []);
          after = suc y.after;
        }

    -- a `pre`, by what it needs
    abbrev pub pre_yield : Turn → Clock → Ty → Yield Expr → Yield Expr
    pre_yield Turn.Keep c t y = mapped Expr.pre y
    pre_yield Turn.Hold c t y = held c t y
    pre_yield Turn.First c t y = mapped Expr.pre y
    pre_yield Turn.Gate c t y = mapped Expr.pre y

    -- a `->`
    abbrev pub arrow_tree : Clock → Expr → Expr → Expr
    arrow_tree c a b = choose (is_base c) (Expr.arrow a b) (if_of (Expr.var (ids.first c)) a b)

    -- a call, gated if it is of an operator with these outputs
    abbrev pub call_tree : Option (List Declared) → Clock → ℕ → Exprs → Expr
    call_tree none c f es = Expr.call f es
    call_tree (some os) c f es = Expr.call ids.condact (Exprs.and (Expr.var (ids.flag c)) (Exprs.and (Expr.call f es) (output_trees os)))

    -- an expression that runs on clock c, n holds being there before
    unfoldable mutual
      unfolding output_trees operand_type operator_outputs

      pub yield : Clock → ℕ → Expr → Yield Expr
      yield c n (Expr.const l w) = still (Expr.const l w) n
      yield c n (Expr.var x) = still (Expr.var x) n
      yield c n (Expr.op h es) = mapped (Expr.op h) (yields c c n es)
      yield c n (Expr.pre e) = pre_yield (pre_turn c (is_bare e)) c (type_or (operand_type (declared node) e)) (yield c n e)
      yield c n (Expr.arrow a b) = joined (arrow_tree c) (yield c n a) (yield c (yield c n a).after b)
      yield c n (Expr.call f es) = mapped (call_tree (gate_of c f) c f) (yields c c n es)
      yield c n (Expr.when k e) = yield (parent c) n e
      yield c n (Expr.merge x a b) =
          joined (λ d e. if_of (Expr.var x) d e) (yield (c ↓ is_on x) n a) (yield (c ↓ is_not x) (yield (c ↓ is_on x) n a).after b)

      -- operands, of which the first is on c and the others on d
      pub yields : Clock → Clock → ℕ → Exprs → Yield Exprs
      yields c d n Exprs.end = still Exprs.end n
      yields c d n (Exprs.and e es) = joined (λ f fs. Exprs.and f fs) (yield c n e) (yields d d (yield c n e).after es)

    -- a right side of several left names under the flag of its clock
    abbrev pub several_tree : Clock → List ℕ → Expr → Shape → Expr
    several_tree c xs e bare = e
    several_tree c xs e other = e
    several_tree c xs e (calls f) =
        choose (eqb f ids.condact) e (Expr.call ids.condact (Exprs.and (Expr.var (ids.flag c)) (Exprs.and e (left_trees xs))))

    -- a right side under the flag of its clock
    abbrev pub flagged_tree : Clock → List ℕ → Expr → Expr
    flagged_tree c [] e = several_tree c [] e (shape_of e)
    flagged_tree c (x ∷ []) e = if_of (Expr.var (ids.flag c)) e (Expr.arrow (left_tree x) (Expr.pre (Expr.var x)))
    flagged_tree c (x ∷ y ∷ xs) e = several_tree c (x ∷ y ∷ xs) e (shape_of e)

    -- an equation's new right side, its clock being c
    unfoldable pub right_yield : Clock → List ℕ → ℕ → Expr → Yield Expr
    unfolding yield left_trees left_tree
    right_yield c xs n e = mapped (λ f. choose (is_base c) f (flagged_tree c xs f)) (yield c n e)

    -- the old equations, in order
    unfoldable pub old_yield : ℕ → List Clocked → Yield (List Equation)
    unfolding right_yield
    old_yield n [] = still [] n
    old_yield n (e ∷ es) =
        joined (λ r rest. record { left = e.equation.left; right = r } ∷ rest)
        (right_yield e.clock e.equation.left n e.equation.right)
        (old_yield (right_yield e.clock e.equation.left n e.equation.right).after es)
