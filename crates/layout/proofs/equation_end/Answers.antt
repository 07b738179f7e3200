-- `layout::equation_end` meets its contract: each part ends where the next begins. Assumes nothing.
use native.Mathlib.Omega.{arith}
use Rattle.layout.proofs.Ends.{equation-ends}
use Rattle.layout.proofs.equation_end.Goals as goal

pub returns : goal.returns
returns c = equation-ends _ _ c.args.source.now.same_length _ _ _ _ _ c.value_at-n.ensures (λ h. omega (arith, h)) c.names_end-right.ensures c.expr_end.ensures
