use Rattle.std.proofs.Common.{sym, ◌∙◌}
use Rattle.arguments.proofs.Numbers.{read_one}
use Rattle.arguments.proofs.number.Goals as goal

pub loop-b-preserved : goal.loop-b-preserved
loop-b-preserved c = read_one c.loop-b.invariant c.loop-b-test.true (sym c.is_digit.ensures ∙ c.if-not-is_digit.false) c.extended-n.ensures
