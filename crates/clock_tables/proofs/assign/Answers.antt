use Rattle.clock_tables.specs.Value.{value_of}
use Rattle.clock_tables.proofs.EnvironmentLaws.{assign-in}
use Rattle.clock_tables.proofs.assign.Goals as goal

pub returns : goal.returns
returns c =
    let r = c.put_row.ensures in
    assign-in c.args.table.now _ c.args.x (value_of c.args.c) r.rows_len_unchanged r.nonzero r.clock r.by_index
