-- `query::write_listing` meets its contract. Assumes nothing.
use Rattle.lines.specs.declared.ListedNode.{ListedNode}
use Rattle.lines.proofs.ListingLengths.{node-fits}
use Rattle.query.proofs.Entries.{chain-room}
use Rattle.query.proofs.write_listing.Goals as goal

pub returns-clause-wrote : goal.returns-clause-wrote
returns-clause-wrote c = λ n z a.
    let w = chain-room a _ z.tells.room in
    c.write.ensures.wrote n z ((rw (c.findings.ensures.count_value, c.findings.ensures.words_value) at c.chain_rows-ordered.ensures) w.0)

pub returns-clause-fits : goal.returns-clause-fits
returns-clause-fits c = λ n z a short.
    let w = chain-room a _ z.tells.room in
    let node : ListedNode = record {
      named = c.args.named;
      told = c.args.told;
      table = record { ref_ptr = c.args.table.ref_ptr; now = c.args.table.now };
      sites = record { ref_ptr = c.args.sites.ref_ptr; now = c.args.sites.now };
    } in
    node-fits node c.chain_rows-ordered.result n z ((rw (c.findings.ensures.count_value, c.findings.ensures.words_value) at c.chain_rows-ordered.ensures) w.0) (record { short = short; findings = w.1 })
