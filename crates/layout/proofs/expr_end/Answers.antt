-- `layout::expr_end` meets its contract: an expression is one part. Assumes nothing.
use Rattle.layout.proofs.Ends.{expr-part}
use Rattle.layout.proofs.expr_end.Goals as goal

pub returns : goal.returns
returns c = λ M d e q g. c.past.ensures q (expr-part _ _ c.args.source.now.same_length M d _ e q g)
