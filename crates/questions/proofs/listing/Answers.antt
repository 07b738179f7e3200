-- `questions::listing` meets its contract. Assumes nothing.
use lib.ListN.{length}
use Rattle.std.proofs.Common.{rules, of_calls}
use Rattle.definitions.specs.Answer.{listing_answer}
use Rattle.listings.specs.Answers.{listing_of}
use Rattle.questions.proofs.Asked.{letters-asked}
use Rattle.questions.proofs.listing.Goals as goal

pub returns : goal.returns
unfolding listing_answer
returns c = letters-asked (λ i. listing_of i c.args.node (length c.args.out.now)) c.ask.ensures (λ d. search rules) (λ u. search (rules, of_calls, u.call.called, u.call.read.standing, u.call.room.listed))
