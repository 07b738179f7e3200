-- What is needed, by a property that each step of rewriting keeps: `needed-kept`, `right-kept`, `old-kept`.
-- Assumes nothing.
use Prim.Native.Nat.{ℕ}
use mathlib.Core.Bool.{Bool, true, false}
use mathlib.Core.List.{List, [], ◌∷◌}
use lib.Dec.{eqb}
use Rattle.definitions.specs.Lists.{choose}
use Rattle.definitions.specs.Tree.{TypeDef, Expr, Exprs, Node}
use Rattle.definitions.specs.Clock.{Clock, ◌↓◌, parent, is_on, is_not, is_base}
use Rattle.definitions.specs.InferClocks.{Clocked}
use Rattle.definitions.specs.Declock.{Shape, bare, other, calls, operator_outputs}
use Rattle.defaults.specs.Has.{is_some}
use Rattle.stateless.specs.Need.{Turn, Needs, with_flag, with_gate, settled, is_bare, pre_turn, arrow_turn, call_turn, needed, needed_all}
use Rattle.stateless.specs.Yield.{shape_after}
use Rattle.stateless.specs.Whole.{several_needs, flagged_needs, right_needs, old_needs}

-- a flag alone, and one with `condact`, keep P on this clock
pub record KeptFlagged (P : Needs → Type 0) (c : Clock) : Type 0 where
  pub flag : (y : Needs) → P y → P (with_flag c y)
  pub gate : (y : Needs) → P y → P (with_gate c y)

-- what an expression needs for itself keeps P
abbrev pub KeptSettled : (Needs → Type 0) → Type 0
KeptSettled P = (t : Turn) (c : Clock) (y : Needs) → P y → P (settled t c y)

module _ (P : Needs → Type 0) where
  -- ---- an expression
  module _ (k : KeptSettled P) (nodes : List Node) where
    mutual
      unfolding needed

      pub needed-kept : (e : Expr) (c : Clock) (y : Needs) → P y → P (needed nodes c e y)
      needed-kept (Expr.const l w) c y h = h
      needed-kept (Expr.var x) c y h = h
      needed-kept (Expr.op o es) c y h = all-kept es c c y h
      needed-kept (Expr.pre e) c y h = k (pre_turn c (is_bare e)) c (needed nodes c e y) (needed-kept e c y h)
      needed-kept (Expr.arrow a b) c y h = k (arrow_turn c) c (needed nodes c b (needed nodes c a y)) (needed-kept b c (needed nodes c a y) (needed-kept a c y h))
      needed-kept (Expr.call f es) c y h = k (call_turn c (is_some (operator_outputs nodes f))) c (needed_all nodes c c es y) (all-kept es c c y h)
      needed-kept (Expr.when j e) c y h = needed-kept e (parent c) y h
      needed-kept (Expr.merge x a b) c y h = needed-kept b (c ↓ is_not x) (needed nodes (c ↓ is_on x) a y) (needed-kept a (c ↓ is_on x) y h)

      pub all-kept : (es : Exprs) (c d : Clock) (y : Needs) → P y → P (needed_all nodes c d es y)
      all-kept Exprs.end c d y h = h
      all-kept (Exprs.and e es) c d y h = all-kept es d d (needed nodes c e y) (needed-kept e c y h)

  -- ---- under the flag of a clock
  module _ (condact : ℕ) (c : Clock) (k : KeptFlagged P c) where
    several-kept : (u : Shape) (y : Needs) → P y → P (several_needs condact c u y)
    several-kept bare y h = k.flag y h
    several-kept other y h = k.flag y h
    several-kept (calls f) y h = go (eqb f condact)
      where
        go : (b : Bool) → P (choose b (with_flag c y) (with_gate c y))
        go true = k.flag y h
        go false = k.gate y h

    pub flagged-kept : (xs : List ℕ) (u : Shape) (y : Needs) → P y → P (flagged_needs condact c xs u y)
    flagged-kept [] u y h = several-kept u y h
    flagged-kept (x ∷ []) u y h = k.flag y h
    flagged-kept (x ∷ z ∷ xs) u y h = several-kept u y h

    -- an equation whose right side kept it
    pub right-kept : (types : List TypeDef) (nodes : List Node) (node : Node) (xs : List ℕ) (e : Expr) (y : Needs) → P (needed nodes c e y) → P (right_needs types nodes node condact c xs e y)
    unfolding right_needs
    right-kept types nodes node xs e y h = go (is_base c)
      where
        go : (b : Bool) → P (choose b (needed nodes c e y) (flagged_needs condact c xs (shape_after types nodes node condact c e) (needed nodes c e y)))
        go true = h
        go false = flagged-kept xs (shape_after types nodes node condact c e) (needed nodes c e y) h

  -- ---- equations
  module _ (k : KeptSettled P) (flag : (c : Clock) (y : Needs) → P y → P (with_flag c y)) (types : List TypeDef) (nodes : List Node) (node : Node) (condact : ℕ) where
    -- THE LAW
    pub old-kept : (es : List Clocked) (y : Needs) → P y → P (old_needs types nodes node condact es y)
    unfolding old_needs
    old-kept [] y h = h
    old-kept (e ∷ es) y h =
        let c = e.clock in
        let flagged : KeptFlagged P c = record { flag = flag c; gate = k Turn.Gate c } in
        old-kept es _ (right-kept condact c flagged types nodes node e.equation.left e.equation.right y (needed-kept k nodes e.equation.right c y h))
