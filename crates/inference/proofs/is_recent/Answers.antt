-- The check finds this alone. It stands here so that an edit is refused by it.
use native.Mathlib.Omega.{arith}
use lib.ListN.{get_or}
use borrow.Author.Tests.{leb-false}
use Rattle.inference.proofs.is_recent.Goals as goal

pub returns-else-since-i : goal.returns-else-since-i
returns-else-since-i c = λ h. record { inside = omega (arith, c.if-since-i.false); earlier = leb-false c.args.made (get_or c.args.since.now c.args.x 0) h }
