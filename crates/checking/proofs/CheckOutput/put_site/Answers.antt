-- A row, if there is room for it.
use Rattle.clock_tables.specs.Value.{value_of}
use Rattle.checking.proofs.Laws.{site-in}
use Rattle.checking.proofs.CheckOutput.put_site.Goals as goal

pub returns-clause-stored : goal.returns-clause-stored
returns-clause-stored c = let r = c.put_row.ensures in site-in c.args.self.now.sites.now _ (value_of c.args.on) c.args.at r.rows_len_unchanged r.clock r.by_index
