-- Too deep a clock is a kind past the others.
use Prim.Native.Nat.{◌*◌}
use native.Mathlib.Omega.{arith}
use borrow.Author.Tests.{leb-true, leb-false}
use Rattle.findings.proofs.Laws.{deep-kind}
use Rattle.findings.proofs.is_deep.Goals as goal

pub returns : goal.returns
returns c = deep-kind c.args.table.now (38 * c.args.i) _ _ c.word_at.ensures (λ h. omega (arith, leb-true _ _ h)) (λ h. omega (arith, leb-false _ _ h))
