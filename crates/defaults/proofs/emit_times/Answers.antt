-- `defaults::emit_times` meets its contract: what is left to write makes the whole. Assumes nothing.
use mathlib.Core.Path.{sym, ◌∙◌}
use Rattle.emit.proofs.Laws.{emits-stuck}
use Rattle.defaults.proofs.Written.{copies-more, copies-none}
use Rattle.defaults.proofs.emit_times.Goals as goal

pub returns-then-output : goal.returns-then-output
returns-then-output g c = λ e w. sym (c.loop.invariant e w ∙ emits-stuck _ _ c.if-output.true)

pub loop-preserved : goal.loop-preserved
loop-preserved g c = λ e w. copies-more e _ _ _ _ _ c.loop-test.true (w _ _ c.emit_one.ensures) (c.loop.invariant e w)

pub returns : goal.returns
returns g c = λ e w. copies-none e _ _ _ _ c.loop-test.false (c.loop.invariant e w)
