-- `inference::set_ports` meets its contract: what is left to do makes the whole. Assumes nothing.
use mathlib.Core.Path.{◌∙◌}
use Rattle.inference.proofs.PassesLaws.{names-room-kept, placing-step}
use Rattle.inference.proofs.set_ports.Goals as goal

pub loop-port-preserved : goal.loop-port-preserved
loop-port-preserved c =
    let k = c.loop-port.invariant in (
      c.set_port.auto.env ∙ k.0,
      c.set_port.auto.marks ∙ k.1,
      λ l g u. placing-step c.args.source.now _ _ (rw c.in-Some.ensures.steps at (k.2 l g u)) c.set_port.ensures (names-room-kept k.0 k.1 u),
    )
