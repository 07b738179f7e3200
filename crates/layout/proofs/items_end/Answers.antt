-- `layout::items_end` meets its contract: where so many items end that have been gone through.
use Rattle.layout.specs.Spans.{here}
use Rattle.layout.proofs.TypedefsLaws.{further}
use Rattle.layout.proofs.items_end.Goals as goal

pub loop-init : goal.loop-init
loop-init g c = here

pub loop-preserved : goal.loop-preserved
loop-preserved g c = further c.loop.invariant c.item_end-place.ensures
