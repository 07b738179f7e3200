-- `planned::put_behind` meets its contract: by the frame.
-- Assumes nothing.
use Rattle.planned.proofs.FramesLaws.{behind-plain, behind-choice, behind-gate}
use Rattle.planned.proofs.put_behind.Goals as goal

pub returns-in-Plain : goal.returns-in-Plain
returns-in-Plain c = λ ts l n xs ks t s k. behind-plain ts l n xs ks _ k _ c.in-Plain.is

pub returns-in-Choose : goal.returns-in-Choose
returns-in-Choose c = λ ts l n xs ks t s k. c.put_kept.ensures ts l n xs ks t s (behind-choice ts l n xs ks _ k _ c.in-Choose.is)

pub returns-in-Gate : goal.returns-in-Gate
returns-in-Gate c = λ ts l n xs ks t s k. behind-gate ts l n xs ks _ k _ c.in-Gate.is _ _ λ f. c.put_left_defaults.ensures ts l n xs t s f
