use native.Mathlib.Omega.{arith}
use Rattle.std.proofs.Common.{rules}
use Rattle.arguments.proofs.Filling.{read_more}
use Rattle.arguments.proofs.read_full.Goals as goal

pub loop-done-preserved : goal.loop-done-preserved
loop-done-preserved g c = (search rules, read_more _ _ _ _ _ _ _ _ c.loop-done.invariant.0 c.in_ok-n.ensures.bound.0 c.loop-done.invariant.1 c.in_ok-n.ensures.bytes.0)

pub returns-clause-end : goal.returns-clause-end
returns-clause-end g c = λ h. absurd (omega (arith, c.loop-done-test.false, h))
