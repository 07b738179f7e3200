-- `lines::ListedNode::put_into` meets its contract: the chains in their rows, and the listing. Assumes nothing.
use Rattle.std.proofs.Common.{rules}
use Rattle.lines.proofs.ListingLengths.{node-fits}
use Rattle.lines.proofs.ListedNode.put_into.Goals as goal

pub returns : goal.returns
returns c = λ n h r small.
    let chained = (rw (c.findings.ensures.count_value, c.findings.ensures.words_value) at c.chain_rows-ordered.ensures) r in
    c.lend_put.ensures _ (node-fits c.args.self.now c.chain_rows-ordered.result n h chained small) (λ o m o' p. search (rules, p, h, chained))
