-- `lines::put_clock_key` meets its contract. Assumes nothing.
use Rattle.definitions.specs.Lists.{bytes}
use Rattle.lines.proofs.Spelled.{letters_put}
use Rattle.lines.proofs.Clocks.{put-base, put-key}
use Rattle.lines.proofs.NamedText.put_clock_key.Goals as goal

pub loop-k-init : goal.loop-k-init
unfolding bytes
loop-k-init c = put-base _ (letters_put c.put_all.ensures)

pub loop-k-preserved : goal.loop-k-preserved
loop-k-preserved c = put-key _ _ c.loop-k.invariant c.put_key_part.ensures
