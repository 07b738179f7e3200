-- By its first token; an array goes on to its element.
use native.Mathlib.Omega.{arith}
use mathlib.Core.Logic.{⊎_elim}
use Rattle.grammar.proofs.Laws.{passes, type-stop, type-basic, type-named, type-deep, type-long, type-array}
use Rattle.grammar.proofs.+read_type.Goals.{else-depth-gt0-via-then-depth-gt0+else-n-le-ARRAY_LENGTH, else-depth-gt0-via-else-depth-gt0}
use Rattle.grammar.proofs.+read_type.Goals as goal

pub returns-in_err-t : goal.returns-in_err-t
returns-in_err-t t c = passes _ _ _ c.from_residual.ensures (type-stop _ _ _ _ c.type_head.ensures _ _ c.in_err-t.was)

pub returns-in-Basic : goal.returns-in-Basic
returns-in-Basic t c =
    ⊎_elim
    (λ b. type-basic _ _ _ _ c.type_head.ensures _ _ _ c.in_ok-t.was b.0 b.1)
    (λ x. type-named _ _ _ _ c.type_head.ensures _ _ _ c.in_ok-t.was x.0 x.1)
    c.in-Basic.is

pub returns-then-n-le-ARRAY_LENGTH : goal.returns-then-n-le-ARRAY_LENGTH
returns-then-n-le-ARRAY_LENGTH t c = type-array _ _ _ _ c.type_head.ensures _ _ _ c.in_ok-t.was _ c.in-Array.is _ (λ e. omega arith) c.if-n-le-ARRAY_LENGTH.true c.read_type.ensures

pub returns-else-depth-gt0 : goal.returns-else-depth-gt0
returns-else-depth-gt0 t c =
    elim c.else-depth-gt0.branch [
      | else-depth-gt0-via-then-depth-gt0+else-n-le-ARRAY_LENGTH w ↦
          type-long _ _ _ _ c.type_head.ensures _ _ _ c.in_ok-t.was _ c.in-Array.is (λ e. omega arith) w.if-n-le-ARRAY_LENGTH.false
      | else-depth-gt0-via-else-depth-gt0 w ↦ type-deep _ _ _ _ c.type_head.ensures _ _ _ c.in_ok-t.was _ c.in-Array.is (omega arith)
    ]
