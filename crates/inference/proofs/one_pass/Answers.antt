-- `inference::one_pass` meets its contract: what is left to do makes the whole.
-- Assumes nothing.
use native.Mathlib.Omega.{arith}
use Rattle.std.proofs.lemmas.Result.{err_from_is_err_and}
use Rattle.inference.proofs.PassesLaws.{kept-all, kept-then, going_start, going_step, going-deep, going_end}
use Rattle.inference.proofs.one_pass.Goals as goal

pub loop-i-init : goal.loop-i-init
loop-i-init c = (kept-all _, λ n es q clocks m e g a h. going_start c.args.round.now n _ _ _ q es clocks g a h)

pub loop-i-preserved : goal.loop-i-preserved
loop-i-preserved c = (
  kept-then _ _ _ c.loop-i.invariant.0 c.one_equation.ensures.kept,
  λ n es q clocks m e g a h. going_step c.args.round.now n es c.args.equations.at c.loop-i.tables c.one_equation.new.tables c.args.ends.now c.loop-i.changed c.args.equations.count c.loop-i.i c.loop-i.place _ q _ _ c.loop-i-test.true m e c.end_at-end.ensures c.one_equation.ensures.held (c.loop-i.invariant.1 n es q clocks m e g a h) _ c.in_ok-changed.was,
)

pub returns-in_err-changed-clause-held : goal.returns-in_err-changed-clause-held
returns-in_err-changed-clause-held c = λ n es q clocks m e g a h. let v = err_from_is_err_and c.from_residual.result c.from_residual.ensures.1 in rw v.1 (going-deep c.args.round.now n es c.args.equations.at c.loop-i.tables c.one_equation.new.tables c.args.ends.now c.loop-i.changed c.args.equations.count c.loop-i.i c.loop-i.place _ q _ _ c.loop-i-test.true m e c.end_at-end.ensures c.one_equation.ensures.held (c.loop-i.invariant.1 n es q clocks m e g a h) _ _ c.in_err-changed.was)

pub returns-clause-held : goal.returns-clause-held
returns-clause-held c = λ n es q clocks m e g a h. going_end c.args.round.now n es _ _ _ c.args.equations.count c.loop-i.i _ q _ (omega (arith, c.loop-i-test.false)) (c.loop-i.invariant.1 n es q clocks m e g a h)
