-- `emit::Output::emit_all` meets its contract: what is left makes the whole of what is written so far. Assumes nothing.
use Rattle.emit.proofs.Laws.{emitted_more, emitted_all}
use Rattle.emit.proofs.output.Output.emit_all.Goals as goal

pub loop-t-preserved : goal.loop-t-preserved
loop-t-preserved c = emitted_more _ _ _ _ _ _ c.loop-t-test.true c.loop-t.invariant c.emit.ensures

pub returns : goal.returns
returns c = emitted_all _ _ _ _ c.loop-t-test.false c.loop-t.invariant
