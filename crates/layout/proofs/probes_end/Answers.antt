-- `layout::probes_end` meets its contract: a probe is two tokens. Assumes nothing.
use Rattle.layout.proofs.Ends.{probes-on}
use Rattle.layout.proofs.probes_end.Goals as goal
use native.Mathlib.Omega.{arith}

pub returns : goal.returns
returns c = λ M l q g. let n = probes-on _ _ c.args.source.now.same_length M _ _ l q g in omega (arith, n.0, n.1)
