-- `operator_of` meets its contract. Assumes nothing.
use Rattle.std.specs.Prelude.{None}
use mathlib.Core.Path.{◌≡◌}
use Rattle.index.proofs.CalleesLaws.{none-called, operator-called}
use Rattle.index.proofs.Index.operator_of.Goals as goal

pub returns-in_err-second : goal.returns-in_err-second
returns-in_err-second c = λ l s.
    let n : c.from_residual.result ≡ None = c.from_residual.ensures in rw n (none-called c.args.self.now l s c.args.f c.operator_named.result (c.operator_named.ensures l s) c.in_err-second.was)

pub returns : goal.returns
returns c = λ l s. operator-called c.args.self.now l s c.args.f c.operator_named.result c.in_ok-second.second (c.operator_named.ensures l s) c.in_ok-second.was _ _ _ c.behind.ensures c.declared_at-inputs.ensures c.declared_at.ensures
