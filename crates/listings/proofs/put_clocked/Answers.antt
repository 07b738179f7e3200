-- `listings::put_clocked` meets its contract. Assumes nothing.
use Rattle.query.proofs.Entries.{chain-room}
use Rattle.listings.proofs.put_clocked.Goals as goal

pub returns : goal.returns
returns c = λ n z a short. let w = chain-room a _ z.tells.room in c.put_into.ensures n z w.0 (record { short = short; findings = w.1 })
