-- `listings::lend` meets its contract. Assumes nothing.
use Rattle.listings.proofs.All.{lent-given}
use Rattle.listings.proofs.lend.Goals as goal

pub returns : goal.returns
returns c = lent-given c.args.text.now c.args.out.now _ _ c.write_bytes.ensures.value c.write_bytes.ensures.out_after
