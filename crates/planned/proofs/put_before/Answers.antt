-- `planned::put_before` meets its contract: by the frame.
-- Assumes nothing.
use Rattle.planned.proofs.FramesLaws.{before-plain}
use Rattle.planned.proofs.put_before.Goals as goal

pub returns-in-Plain : goal.returns-in-Plain
returns-in-Plain c = before-plain _ _ _ _ c.in-Plain.is
