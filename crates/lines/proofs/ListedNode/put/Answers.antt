-- `lines::ListedNode::put` meets its contract. Assumes nothing.
use Rattle.std.proofs.Common.{rules}
use Rattle.spelling.proofs.Writing.{put-held}
use Rattle.lines.proofs.ListedNode.put.Goals as goal

pub returns : goal.returns
returns c = λ n h e. put-held c.place.ensures (search rules) (c.write.ensures.wrote n h e).put
