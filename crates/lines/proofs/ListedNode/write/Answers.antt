-- `lines::ListedNode::write` meets its contract: its parts, one behind another. Assumes nothing.
use mathlib.Core.Path.{refl}
use Rattle.std.proofs.Common.{rules}
use Rattle.lines.proofs.Laws.{node-put}
use Rattle.lines.proofs.Spelled.{wrote_to}
use Rattle.lines.proofs.ListedNode.write.Goals as goal

pub returns-clause-wrote : goal.returns-clause-wrote
returns-clause-wrote c = λ n h e. wrote_to (node-put c.args.self.now c.args.ordered.now n refl h e c.put_head.ensures c.put_equations.ensures.spelled c.put_chains.ensures c.put_faults.ensures) (search rules)
