-- `planned::put_equation` meets its contract: the head, the operand, the value before.
-- Assumes nothing.
use mathlib.Core.Path.{ap}
use Rattle.planned.specs.declared.HeldOperand.{HeldOperand}
use Rattle.planned.proofs.HoldsLaws.{equated-hold}
use Rattle.planned.proofs.put_equation.Goals as goal

pub returns : goal.returns
returns c = λ W h e s d. equated-hold c.args.written.now W _ _ _ _ _ h _ _ _ _ _ s d c.word_at-x.ensures (ap (λ (h : HeldOperand). h.row) e) c.word_at-flag.ensures (ap (λ (h : HeldOperand). h.at) e) c.put_hold.ensures (c.expr.ensures W s) c.put_named.ensures
