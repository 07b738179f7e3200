-- `cycles::target_of` meets its contract: the first token decides, and the depth falls at an element.
-- Assumes nothing.
use Rattle.cycles.proofs.+target_of.Given as goal

abbrev pub decreases-target_of : goal.decreases-target_of
decreases-target_of l = l.depth
