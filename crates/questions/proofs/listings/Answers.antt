-- `questions::listings` meets its contract. Assumes nothing.
use lib.ListN.{length}
use Rattle.std.proofs.Common.{rules, of_calls}
use Rattle.definitions.specs.Answer.{listings_answer}
use Rattle.listings.specs.Answers.{listings_of}
use Rattle.questions.proofs.Asked.{letters-asked}
use Rattle.questions.proofs.listings.Goals as goal

pub returns : goal.returns
unfolding listings_answer
returns c = letters-asked (λ i. listings_of i (length c.args.out.now)) c.ask.ensures (λ d. search rules) (λ u. search (rules, of_calls, u.call.called, u.call.read.standing, u.call.room.listed))
