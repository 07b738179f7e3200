-- The first fault that rewriting meets: faults 5 to 9. It does not depend on what was needed before.
use Rattle.std.specs.Prelude.{ℕ, suc, eqb}
use mathlib.Core.List.{List, [], ◌∷◌}
use Rattle.std.proofs.Math.Option.{Option, none, some}
use Rattle.definitions.specs.Lists.{choose, or_else}
use Rattle.definitions.specs.Tree.{Ty, Declared, TypeDef, Expr, Exprs, Node}
use Rattle.definitions.specs.Clock.{Clock, ◌↓◌, parent, is_on, is_not, is_base}
use Rattle.definitions.specs.Types.{default}
use Rattle.definitions.specs.InferClocks.{Fault, undeclared, no_default, no_output_default, not_single_call, pre_untyped, NodeFault, Clocked}
use Rattle.definitions.specs.Declock.{Shape, bare, other, calls, declared, last_type, operand_type, operator_outputs}
use Rattle.stateless.specs.Need.{Turn, is_bare, pre_turn}
use Rattle.stateless.specs.Yield.{gate_of, shape_after}

-- a fault where there is nothing
abbrev pub unless : {A : Type 0} → Option A → Fault → Option Fault
unless none f = some f
unless (some a) f = none

-- a `pre` that is held needs a type
abbrev pub pre_fault : Turn → Option Ty → Option Fault
pre_fault Turn.Keep o = none
pre_fault Turn.Hold o = unless o pre_untyped
pre_fault Turn.First o = none
pre_fault Turn.Gate o = none

module _ (types : List TypeDef) (nodes : List Node) (node : Node) where
  -- the defaults of a call's outputs
  unfoldable pub outputs_fault : ℕ → List Declared → Option Fault
  unfolding default
  outputs_fault f [] = none
  outputs_fault f (d ∷ ds) = or_else (unless (default types d.type) (no_output_default d.name f)) (outputs_fault f ds)

  -- a call that is gated needs its outputs' defaults
  abbrev pub gate_fault : ℕ → Option (List Declared) → Option Fault
  gate_fault f none = none
  gate_fault f (some os) = outputs_fault f os

  -- an expression on this clock
  unfoldable mutual
    unfolding outputs_fault operand_type operator_outputs

    pub fault_in : Clock → Expr → Option Fault
    fault_in c (Expr.const l w) = none
    fault_in c (Expr.var x) = none
    fault_in c (Expr.op h es) = fault_among c c es
    fault_in c (Expr.pre e) = or_else (fault_in c e) (pre_fault (pre_turn c (is_bare e)) (operand_type (declared node) e))
    fault_in c (Expr.arrow a b) = or_else (fault_in c a) (fault_in c b)
    fault_in c (Expr.call f es) = or_else (fault_among c c es) (gate_fault f (gate_of types nodes node c f))
    fault_in c (Expr.when k e) = fault_in (parent c) e
    fault_in c (Expr.merge x a b) = or_else (fault_in (c ↓ is_on x) a) (fault_in (c ↓ is_not x) b)

    -- operands, of which the first is on c and the others on d
    pub fault_among : Clock → Clock → Exprs → Option Fault
    fault_among c d Exprs.end = none
    fault_among c d (Exprs.and e es) = or_else (fault_in c e) (fault_among d d es)

  -- the default of a left name whose type may be unknown
  abbrev pub left_type_fault : ℕ → Option Ty → Option Fault
  left_type_fault x none = some (undeclared x)
  left_type_fault x (some t) = unless (default types t) (no_default x)

  unfoldable pub left_fault : ℕ → Option Fault
  unfolding default last_type
  left_fault x = left_type_fault x (last_type (declared node) x)

  unfoldable pub lefts_fault : List ℕ → Option Fault
  unfolding left_fault
  lefts_fault [] = none
  lefts_fault (x ∷ xs) = or_else (left_fault x) (lefts_fault xs)

  -- several left names need a call after rewriting; the id of `condact` is given
  abbrev pub several_fault : ℕ → List ℕ → Shape → Option Fault
  several_fault condact xs bare = some not_single_call
  several_fault condact xs other = some not_single_call
  several_fault condact xs (calls f) = choose (eqb f condact) none (lefts_fault xs)

  -- a right side under the flag of its clock
  abbrev pub flagged_fault : ℕ → List ℕ → Shape → Option Fault
  flagged_fault condact [] u = several_fault condact [] u
  flagged_fault condact (x ∷ []) u = left_fault x
  flagged_fault condact (x ∷ y ∷ xs) u = several_fault condact (x ∷ y ∷ xs) u

  -- an equation on this clock
  unfoldable pub right_fault : ℕ → Clock → List ℕ → Expr → Option Fault
  unfolding fault_in lefts_fault shape_after
  right_fault condact c xs e = or_else (fault_in c e) (choose (is_base c) none (flagged_fault condact xs (shape_after types nodes node condact c e)))

  -- a fault of equation i
  abbrev pub at_equation : ℕ → Option Fault → Option NodeFault
  at_equation i none = none
  at_equation i (some f) = some (record { equation = i; fault = f })

  -- the old equations, from equation i on
  unfoldable pub old_fault : ℕ → ℕ → List Clocked → Option NodeFault
  unfolding right_fault
  old_fault condact i [] = none
  old_fault condact i (e ∷ es) = or_else (at_equation i (right_fault condact e.clock e.equation.left e.equation.right)) (old_fault condact (suc i) es)
