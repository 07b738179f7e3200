-- `is_within` meets its contract: of each pair of marks. Assumes nothing.
use Rattle.std.proofs.Common.{rules}
use borrow.Author.Tests.{tests}
use native.Mathlib.Omega.{arith}
use Rattle.std.proofs.lemmas.Iterator.{YieldsList-from_slice, YieldsList-from_take, YieldsList-from_zip}
use Rattle.std.proofs.lemmas.Iterator.Search.{all_from_yields_List}
use Rattle.cycles.proofs.Laws.{implied, within-by}
use Rattle.cycles.proofs.graph.Graph.is_within.Goals as goal

pub returns : goal.returns
returns c =
    within-by c.args.self.now.count c.args.ones.now c.args.others.now c.all.result (omega arith) (omega arith)
    (all_from_yields_List implied c.all.new.self _ c.all.result c.all.ensures.ran (YieldsList-from_take c.args.self.now.count (YieldsList-from_zip (YieldsList-from_slice c.args.ones.now (cc)) (YieldsList-from_slice c.args.others.now (cc))) (cc)) (λ x r q k. search (rules, tests)))
