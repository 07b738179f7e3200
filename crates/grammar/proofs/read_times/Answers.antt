-- One more that was read, one that was refused, and the end.
use mathlib.Core.Path.{sym, ◌∙◌}
use native.Mathlib.Omega.{arith}
use Rattle.grammar.proofs.Laws.{passes, repeated-ends, repeated-stops, repeated_on}
use Rattle.grammar.proofs.read_times.Goals as goal

pub loop-preserved : goal.loop-preserved
loop-preserved g c = λ r m. c.loop.invariant r m ∙ repeated_on r _ _ _ _ c.loop-test.true (sym (m _ _ c.read.ensures) ∙ c.in_ok-place.was)

pub returns-in_err-place : goal.returns-in_err-place
returns-in_err-place g c =
    λ r m. passes _ _ _ c.from_residual.ensures (sym (c.loop.invariant r m ∙ repeated-stops r _ _ _ (omega arith) (sym (m _ _ c.read.ensures) ∙ c.in_err-place.was)))

pub returns : goal.returns
returns g c = λ r m. sym (c.loop.invariant r m ∙ repeated-ends r _ _ (omega arith))
