-- `questions::clocks` meets its contract. Assumes nothing.
use Rattle.std.proofs.Common.{rules, of_calls}
use Rattle.definitions.specs.Answer.{clocks_answer}
use Rattle.listings.specs.Answers.{clocks_of}
use Rattle.questions.proofs.Asked.{clocks-asked}
use Rattle.questions.proofs.clocks.Goals as goal

pub returns : goal.returns
unfolding clocks_answer
returns c = let after = c.ask.new.answer in
    clocks-asked c.args.node (λ i. clocks_of i c.args.node) after.1.now after.2.now after.3.now c.ask.ensures (λ d. (search rules, search rules, search rules)) (search rules) (search rules) (search rules)
    (λ u. search (rules, of_calls, u.call.called, u.call.read.standing, u.call.room.listed))
