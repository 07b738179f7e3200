-- `planned::put_type_at` meets its contract: the first token is written, and an element's tokens follow an array's.
-- Assumes nothing.
use Prim.Native.Nat.{◌-◌}
use lib.ListN.{length}
use Rattle.planned.proofs.+put_type_at.Given as goal

abbrev pub decreases-put_type_at : goal.decreases-put_type_at
decreases-put_type_at l = length l.source.now.tags.now - l.at
