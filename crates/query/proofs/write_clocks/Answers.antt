-- `query::write_clocks` meets its contract. Assumes nothing.
use native.Mathlib.Omega.{arith}
use Rattle.query.proofs.Entries.{chain-room, node-written}
use Rattle.query.proofs.write_clocks.Goals as goal

pub returns : goal.returns
returns c = λ n z a small.
    let w = chain-room a _ z.tells.room in
    let f = c.write_found.ensures in
    node-written _ _ _ _ _ n z _ _ _ _ _ _ _ c.write_equations.ensures (f.counted w.0) (f.chains_after w.0) (f.faults_after (omega (arith, small)))
