-- `parts::copy_items` meets its contract. The loop has put the first i items. Assumes nothing.
use Rattle.std.proofs.Common.{◌≡◌}
use lib.ListN.{length, take}
use Rattle.parts.proofs.copy_items.Given as goal

abbrev pub invariant-loop-i : goal.invariant-loop-i
invariant-loop-i g l = (length l.to ≡ length l.from) × (take l.i l.to ≡ take l.i l.from)
