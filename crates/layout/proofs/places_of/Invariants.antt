-- `layout::places_of` meets its contract: the places so far, and that of the item that is next.
use Rattle.std.proofs.Common.{◌≡◌, ℕ, ◌<◌, length, get_or, min}
use Rattle.layout.specs.Spans.{Ended}
use Rattle.layout.proofs.places_of.Given as goal

abbrev pub invariant-loop-place : goal.invariant-loop-place
invariant-loop-place g l = record {
  many : l.place-index-end ≡ min g.row.N l.fn.items.count;
  room : length l.place-items ≡ l.place-index-end;
  next : Ended (goal.F-post g l.item_end) l.fn.items.at l.place-index l.next;
  each : (k : ℕ) → k < l.place-index → Ended (goal.F-post g l.item_end) l.fn.items.at k (get_or l.place-items k 0);
}
