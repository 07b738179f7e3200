-- `lines::put_conditions` meets its contract. Assumes nothing.
use Rattle.lines.proofs.Spelled.{letters_put}
use Rattle.lines.proofs.Clocks.{put_first, put_next}
use Rattle.lines.proofs.NamedText.put_conditions.Goals as goal

pub loop-k-init : goal.loop-k-init
loop-k-init c = put_first _ _ c.put_condition.ensures

pub loop-k-preserved : goal.loop-k-preserved
loop-k-preserved c = put_next _ _ _ c.loop-k.invariant (letters_put c.put.ensures) c.put_condition-in-loop-k.ensures
