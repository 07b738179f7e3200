-- `inference::free_leaf` meets its contract: by the leaf, and by its name's clock.
-- Assumes nothing.
use Rattle.inference.proofs.Leaf.{free-name, free-constant}
use Rattle.inference.proofs.free_leaf.Goals as goal

pub returns-in_default : goal.returns-in_default
returns-in_default c = λ M e q end clocks g a j. let f = free-name M _ _ c.args.input.now.source.same_length _ e q g _ c.leaf_at.ensures _ clocks a _ _ c.in_ok-leaf.was c.in-Some.is c.is_assigned.ensures c.if-is_assigned.false in (f.0, cc f.1)

pub returns-in_default-2 : goal.returns-in_default-2
returns-in_default-2 c = λ M e q end clocks g a j. let f = free-constant M _ _ c.args.input.now.source.same_length _ e q g _ c.leaf_at.ensures _ clocks a _ c.in_ok-leaf.was c.in_default.is in (f.0, cc f.1)
