-- `lines::text_into` meets its contract. Assumes nothing.
use Rattle.std.proofs.Common.{rules}
use Rattle.lines.proofs.TextsLengths.{fault-fits}
use Rattle.lines.proofs.text_into.Goals as goal

pub returns : goal.returns
returns c = c.lend_put.ensures _ (fault-fits c.args.spelling.starts.now c.args.spelling.letters.now c.args.fault c.requires) (λ o n o' p. search (rules, p))
