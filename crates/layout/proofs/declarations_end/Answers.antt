-- `layout::declarations_end` meets its contract: a declaration is one part. Assumes nothing.
use Rattle.layout.proofs.Ends.{declaration-parts}
use Rattle.layout.proofs.declarations_end.Goals as goal

pub returns : goal.returns
returns c = λ M l q g. c.past.ensures q (declaration-parts _ _ c.args.source.now.same_length M _ _ l q g)
