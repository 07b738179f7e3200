-- The holds of a plan.
use Rattle.std.specs.Prelude.{ℕ, suc, ◌≡◌, List, [], ◌∷◌, map, get_or}
use Rattle.std.proofs.Math.Option.{some}
use Rattle.definitions.specs.Tokens.{code_of}
use Rattle.definitions.specs.Bytes.{tokens}
use Rattle.definitions.specs.Tree.{Expr}
use Rattle.definitions.specs.Reading.{got}
use Rattle.definitions.specs.Declock.{Hold, declared, operand_type, if_of}
use Rattle.definitions.specs.Output.{expr_tokens}
use Rattle.operands.specs.Spread.{tree}
use Rattle.planned.specs.declared.HeldOperand.{HeldOperand}
use Rattle.planned.specs.Writes.{Writer, Writes}

-- the hold of a number; past the end it is the first token's under the first flag
abbrev pub hold_at : List HeldOperand → ℕ → HeldOperand
hold_at holds j = get_or holds j (record { at = 0; row = 0 })

-- M is the number of names
module _ (M : ℕ) (gs vs : List ℕ) (W : Writer) (plan : List ℕ) where
  -- hold j: its operand stands there, has its type, and is written so under its flag
  pub record HeldAt (holds : List HeldOperand) (j : ℕ) (h : Hold) : Type 0 where
    pub operand : Expr
    pub rewritten : Expr
    pub end : ℕ
    pub stands : tree M (tokens gs vs) (hold_at holds j).at ≡ got operand end
    pub typed : operand_type (declared W.node) operand ≡ some h.type
    pub right : h.right ≡ if_of (Expr.var (get_or W.flag_ids (hold_at holds j).row 0)) rewritten (Expr.pre (Expr.var (get_or W.hold_ids j 0)))
    pub written : Writes gs vs W plan (hold_at holds j).at 1 end (map code_of (expr_tokens rewritten))

  -- the holds from number j on
  unfoldable pub HeldFrom : List HeldOperand → ℕ → List Hold → Type 0
  HeldFrom holds j [] = Unit {0}
  HeldFrom holds j (h ∷ hs) = HeldAt holds j h × HeldFrom holds (suc j) hs
