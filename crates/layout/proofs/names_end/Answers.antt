-- `layout::names_end` meets its contract: a name is one token. Assumes nothing.
use Rattle.layout.proofs.Ends.{names-on}
use Rattle.layout.proofs.names_end.Goals as goal
use native.Mathlib.Omega.{arith}

pub returns : goal.returns
returns c = λ M l q g. let n = names-on _ _ c.args.source.now.same_length M _ _ l q g in omega (arith, n.0, n.1)
