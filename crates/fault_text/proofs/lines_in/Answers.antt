-- `fault_text::lines_in` meets its contract. Assumes nothing.
use mathlib.Core.Path.{sym}
use Rattle.std.proofs.Common.{rules}
use Rattle.definitions.specs.Answer.{clockings, first_lines}
use Rattle.workspace.proofs.Kept.{plan-kept}
use Rattle.first_faults.proofs.Standing.{stands-in}
use Rattle.listings.proofs.All.{lent-each}
use Rattle.listings.proofs.Given.{listing-same}
use Rattle.fault_text.specs.Lines.{lines_text}
use Rattle.fault_text.proofs.lines_in.Goals as goal

pub returns-clause-given : goal.returns-clause-given
returns-clause-given c = λ i s named room.
    let z = stands-in c.index_of-index.ensures.source_value c.index_of-index.ensures.indexed c.args.names c.condact.ensures s named room in
    listing-same _ _ _ _ _ (sym (lent-each (clockings 0 i.sheet.nodes) (first_lines i) _))
    (c.lend_put.ensures.given (lines_text i) (λ o w a o' w' kept p. search (rules, p, z.0, s.named, plan-kept kept z.1)))
