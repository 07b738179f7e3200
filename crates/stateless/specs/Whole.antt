-- What rewriting the equations of a node needs, in order of need.
use Rattle.std.specs.Prelude.{ℕ, false, eqb}
use mathlib.Core.List.{List, [], ◌∷◌}
use Rattle.definitions.specs.Lists.{choose}
use Rattle.definitions.specs.Tree.{TypeDef, Expr, Node}
use Rattle.definitions.specs.Clock.{Clock, is_base}
use Rattle.definitions.specs.InferClocks.{Clocked}
use Rattle.definitions.specs.Declock.{Shape, bare, other, calls}
use Rattle.stateless.specs.Need.{Needs, with_flag, with_gate, needed}
use Rattle.stateless.specs.Yield.{shape_after}

-- nothing is needed yet
abbrev pub no_needs : Needs
no_needs = record { flags = []; firsts = []; holds = 0; condact = false }

-- several left names gate a call that is not of `condact`
abbrev pub several_needs : ℕ → Clock → Shape → Needs → Needs
several_needs condact c bare s = with_flag c s
several_needs condact c other s = with_flag c s
several_needs condact c (calls f) s = choose (eqb f condact) (with_flag c s) (with_gate c s)

-- a right side under the flag of its clock
abbrev pub flagged_needs : ℕ → Clock → List ℕ → Shape → Needs → Needs
flagged_needs condact c [] u s = several_needs condact c u s
flagged_needs condact c (x ∷ []) u s = with_flag c s
flagged_needs condact c (x ∷ y ∷ xs) u s = several_needs condact c u s

module _ (types : List TypeDef) (nodes : List Node) (node : Node) (condact : ℕ) where
  -- an equation on this clock
  unfoldable pub right_needs : Clock → List ℕ → Expr → Needs → Needs
  unfolding needed shape_after
  right_needs c xs e s = choose (is_base c) (needed nodes c e s) (flagged_needs condact c xs (shape_after types nodes node condact c e) (needed nodes c e s))

  -- the old equations, in order
  unfoldable pub old_needs : List Clocked → Needs → Needs
  unfolding right_needs
  old_needs [] s = s
  old_needs (e ∷ es) s = old_needs es (right_needs e.clock e.equation.left e.equation.right s)
