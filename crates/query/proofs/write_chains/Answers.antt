-- `query::write_chains` meets its contract. Assumes nothing.
use Rattle.chain_order.specs.Order.{row_of}
use Rattle.query.proofs.Entries.{chains-many, chains-written}
use Rattle.query.proofs.write_chains.Goals as goal

pub returns : goal.returns
returns c =
    record {
      value = λ u. chains-many (row_of c.chain_rows-ordered.result.rows.now) c.chain_rows-ordered.result.order.now _ (c.chain_rows-ordered.ensures u);
      list_after = λ u. chains-written (row_of c.chain_rows-ordered.result.rows.now) c.chain_rows-ordered.result.order.now _ (c.chain_rows-ordered.ensures u) _ _ c.write_rows.ensures;
    }
