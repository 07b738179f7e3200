-- `listings::listings_lent` meets its contract. Assumes nothing.
use mathlib.Core.Path.{sym}
use Rattle.std.proofs.Common.{rules}
use Rattle.workspace.proofs.Kept.{list-kept}
use Rattle.definitions.specs.Answer.{clockings}
use Rattle.query.specs.Listed.{listings_text}
use Rattle.listings.proofs.All.{lent-each}
use Rattle.listings.proofs.Given.{listing-same}
use Rattle.listings.proofs.listings_lent.Goals as goal

pub returns-clause-given : goal.returns-clause-given
returns-clause-given c = λ ns q g r x. listing-same _ _ _ _ _ (sym (lent-each (clockings 0 ns) _ _)) (c.lend_put.ensures.given (listings_text _ ns) (λ o w a o' w' s p. search (rules, p, g, list-kept s r, x)))
