-- `layout::items_end` meets its contract: where so many items end that have been gone through.
use Rattle.layout.specs.Spans.{Ended}
use Rattle.layout.proofs.items_end.Given as goal

abbrev pub invariant-loop : goal.invariant-loop
invariant-loop g l = Ended (goal.F-post g l.item_end) l.at l.counter l.place
