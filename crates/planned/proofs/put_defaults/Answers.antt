-- `planned::put_defaults` meets its contract: one output's default after another.
-- Assumes nothing.
use mathlib.Core.Path.{refl}
use Rattle.planned.proofs.Defaults.{defaults-next, defaults-end, spans-behind, none-behind}
use Rattle.planned.proofs.LeftDefaultsLaws.{lent-default}
use Rattle.planned.proofs.put_defaults.Goals as goal

pub returns-in_default : goal.returns-in_default
returns-in_default c = λ ts l n f ds s d h. none-behind ts l n f _ _ _ c.in_default.is _ ds d

pub loop-declared-init : goal.loop-declared-init
loop-declared-init c = λ ts l n f ds s d h. record { rest = ds; laid = rw c.into_iter-declared-iterator.ensures.into_iter_gives (c.declarations-declared-items.ensures.laid ds (spans-behind ts l n f _ _ _ _ c.in-Some.is ds d)); faultless = h; whole = refl }

pub loop-declared-preserved : goal.loop-declared-preserved
loop-declared-preserved c = λ ts l n f ds s d h. defaults-next ts l n f _ _ _ _ _ _ _ (λ t q e g k. lent-default c.type_table-table.result c.args.index.now c.type_table-table.ensures _ _ _ c.emit_default.ensures ts t q e s g k) (rw c.in-Some-declared.ensures.steps at (c.loop-declared.invariant ts l n f ds s d h))

pub returns : goal.returns
returns c = λ ts l n f ds s d h. defaults-end ts l n f _ _ _ _ _ c.in-None.ensures.steps.0 (c.loop-declared.invariant ts l n f ds s d h)
