-- `plan::hold` meets its contract.
-- Assumes nothing.
use native.Mathlib.Omega.{arith}
use mathlib.Core.Path.{◌≡◌, refl}
use borrow.Author.Rules.{rules}
use Prim.Native.Nat.{◌+◌}
use Rattle.plan.proofs.Closing.{hold-next}
use Rattle.plan.proofs.hold.Goals as goal

pub returns-clause-preceded : goal.returns-clause-preceded
returns-clause-preceded c = λ y b B. hold-next _ _ _ _ _ c.add_with_parents-row.ensures.grown.held y B _ c.add_with_parents-row.ensures.row _ _ _ _ _ _ refl c.push.ensures.counted (omega (arith, c.if-j-ge4294967295.false)) c.put_at.ensures (omega arith) c.push.ensures.holds_after (λ u v. let a : c.unwrap_or.result ≡ c.args.at + 1 = search (rules, u) in let r : c.unwrap_or-2.result ≡ c.add_with_parents-row.result = search (rules, v) in cc) _ c.get-c.ensures b
