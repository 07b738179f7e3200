use Rattle.std.proofs.Common.{rules}
use Rattle.clock_tables.proofs.EnvironmentLaws.{env-told}
use Rattle.clock_tables.proofs.lookup.Goals as goal

pub returns : goal.returns
returns c = env-told c.args.table.now c.args.x _ _ (λ o h. search (rules, h)) c.is_assigned.ensures c.then.ensures.variant c.then.ensures.some
