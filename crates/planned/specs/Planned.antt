-- The plan of a node's equations.
use Rattle.std.specs.Prelude.{ℕ, ◌+◌, ◌≡◌, length, get_or}
use mathlib.Core.List.{List, [], ◌∷◌, map}
use Rattle.definitions.specs.Tokens.{code_of}
use Rattle.definitions.specs.Bytes.{tokens}
use Rattle.definitions.specs.Tree.{Equation}
use Rattle.definitions.specs.Reading.{got}
use Rattle.definitions.specs.Grammar.{equation}
use Rattle.definitions.specs.Clock.{Clock, is_base}
use Rattle.definitions.specs.InferClocks.{Clocked}
use Rattle.definitions.specs.Output.{expr_tokens}
use Rattle.stateless.specs.Yield.{Ids, shape_after, yield, right_yield}
use Rattle.planned.specs.Writes.{Writer, Writes}
use Rattle.planned.specs.declared.Frame.{Frame}
use Rattle.planned.specs.Framed.{frame_in, frame_of}

-- M is the number of names, k the id of `condact` by which right sides were gated
module _ (M : ℕ) (gs vs : List ℕ) (W : Writer) (plan : List ℕ) (k : ℕ) where
  -- what stands around a right side of so many left names, by the equation's word: 0, or the row of its flag and one more
  abbrev pub frame_by : ℕ → ℕ → Frame
  frame_by count w = frame_in W.flag_ids count w

  -- the equation at p up to q on this clock, n holds being there before: its right side is written so, in its frame
  pub record EquationPlanned (ids : Ids) (n : ℕ) (c : Clock) (e : Equation) (p q : ℕ) : Type 0 where
    pub stands : equation M (tokens gs vs) p ≡ got e q
    pub framed : frame_by (length e.left) (get_or plan p 0) ≡ frame_of (is_base c) k (ids.flag c) e.left (shape_after W.types W.nodes W.node k c e.right)
    pub written : Writes gs vs W plan (p + 1 + length e.left) 1 q (map code_of (expr_tokens (yield W.types W.nodes W.node ids c n e.right).value))

  -- the equations from p up to q, n holds being there before
  unfoldable pub EquationsPlanned : Ids → ℕ → List Clocked → ℕ → ℕ → Type 0
  unfolding right_yield
  EquationsPlanned ids n [] p q = p ≡ q
  EquationsPlanned ids n (e ∷ es) p q =
      (r : ℕ) × EquationPlanned ids n e.clock e.equation p r × EquationsPlanned ids (right_yield W.types W.nodes W.node ids e.clock e.equation.left n e.equation.right).after es r q
