-- `listings::listings_in` meets its contract: by how many nodes there are. Assumes nothing.
use Rattle.grammar.proofs.Got.{times-nil}
use Rattle.listings.proofs.All.{listings-none, only-listed, all_listed}
use Rattle.listings.proofs.Given.{short-of}
use Rattle.listings.proofs.listings_in.Goals as goal

pub returns-then-nodes-eq0-clause-given : goal.returns-then-nodes-eq0-clause-given
returns-then-nodes-eq0-clause-given c = λ i s r. listings-none i _ (times-nil _ _ _ _ _ _ c.if-nodes-eq0.true (c.sheet_at-whole.ensures i.sheet _ s.tree).nodes.items).0

pub returns-then-nodes-eq1-clause-given : goal.returns-then-nodes-eq1-clause-given
returns-then-nodes-eq1-clause-given c = λ i s r. only-listed i _ _ _ _ _ (c.sheet_at-whole.ensures i.sheet _ s.tree).nodes.items c.if-nodes-eq1.true _ _ _ (c.listing_in.ensures.given i s r)

pub returns-clause-given : goal.returns-clause-given
returns-clause-given c = λ i s r. all_listed _ i _ _ _ s.named (c.listings_lent.ensures.given i.sheet.nodes _ (c.sheet_at-whole.ensures i.sheet _ s.tree).nodes.items r (short-of s))
