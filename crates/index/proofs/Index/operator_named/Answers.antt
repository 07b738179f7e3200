-- `operator_named` meets its contract. Assumes nothing.
use Rattle.std.specs.Prelude.{None}
use mathlib.Core.Path.{◌≡◌, ◌∙◌, ap}
use Rattle.index.specs.Callees.{operator_in}
use Rattle.index.proofs.CalleesLaws.{named-found, none-named, some-named, told-by}
use Rattle.index.proofs.Index.operator_named.Goals as goal

pub returns-in_err-i : goal.returns-in_err-i
returns-in_err-i c = λ l s.
    let n : c.from_residual.result ≡ None = c.from_residual.ensures in
    rw n (none-named c.args.self.now l s c.args.f c.find.result (named-found c.args.self.now l s c.args.f c.find.result c.find.ensures.used c.find.ensures.first) c.in_err-i.was)

pub returns : goal.returns
returns c = λ l s.
    let b = some-named c.args.self.now l s c.args.f c.find.result c.in_ok-i.i (named-found c.args.self.now l s c.args.f c.find.result c.find.ensures.used c.find.ensures.first) c.in_ok-i.was in
    told-by c.args.self.now l s c.args.f c.in_ok-i.i b.0 b.1 _ c.behind-second.ensures _ _ (c.says_operator.ensures ∙ ap operator_in c.value_at-value.ensures) c.then_some.ensures
