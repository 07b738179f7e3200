use Prim.Native.Nat.{◌≤◌}
use mathlib.Core.Path.{◌≡◌, ap, ◌∙◌}
use native.Mathlib.Omega.{arith}
use borrow.Author.Rules.{rules}
use lib.ListN.{length}
use Rattle.clock_tables.specs.Value.{clock_at}
use Rattle.clock_tables.proofs.ClockLaws.{clock-listed}
use Rattle.clock_tables.proofs.clock.Clock.conditions.Goals as goal

pub returns-clause-clock : goal.returns-clause-clock
returns-clause-clock c =
    let n : length c.args.self.now.conditions ≡ 8 = search rules in
    let few : c.capped.result ≤ 8 = omega (arith, c.capped.ensures) in
    clock-listed c.args.self.now.conditions c.capped.result (omega (arith, n, few)) ∙ ap (λ d. clock_at c.args.self.now.conditions d) c.capped.ensures
