-- `typing::shape_after` meets its contract.
-- Assumes nothing.
use Prim.Native.Nat.{◌-◌}
use lib.ListN.{length}
use Rattle.typing.proofs.+shape_after.Given as goal

abbrev pub decreases-shape_after : goal.decreases-shape_after
decreases-shape_after l = length l.index.now.source.tags.now - l.at
