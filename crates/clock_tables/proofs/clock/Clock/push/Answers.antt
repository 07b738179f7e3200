use Prim.Native.Nat.{◌≤◌}
use mathlib.Core.Path.{◌≡◌}
use native.Mathlib.Omega.{arith}
use borrow.Author.Rules.{rules}
use borrow.Author.Tests.{le-ltb}
use lib.ListN.{length}
use Rattle.clock_tables.specs.Value.{capped}
use Rattle.clock_tables.proofs.ClockLaws.{depth-at, value-push}
use Rattle.clock_tables.proofs.clock.Clock.push.Goals as goal

pub returns-then-d-ge-DEEPEST : goal.returns-then-d-ge-DEEPEST
returns-then-d-ge-DEEPEST c =
    let l : 8 ≤ capped c.args.self.depth = omega (arith, c.if-d-ge-DEEPEST.true) in
    rw (depth-at c.args.self.conditions (capped c.args.self.depth), le-ltb _ _ l)

pub returns : goal.returns
returns c =
    let n : length c.args.self.conditions ≡ 8 = search rules in
    value-push _ _ _ n c.if-d-ge-DEEPEST.false
