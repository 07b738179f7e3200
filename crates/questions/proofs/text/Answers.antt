-- `questions::text` meets its contract. Assumes nothing.
use lib.ListN.{length}
use Rattle.std.proofs.Common.{rules, of_calls}
use Rattle.definitions.specs.Answer.{text_answer}
use Rattle.workspace.proofs.Kept.{to-plan}
use Rattle.fault_text.specs.Texts.{text_of}
use Rattle.questions.proofs.Asked.{letters-asked}
use Rattle.questions.proofs.text.Goals as goal

pub returns : goal.returns
unfolding text_answer
returns c = letters-asked (λ i. text_of i c.args.node c.args.fault (length c.args.out.now)) c.ask.ensures (λ d. search rules) (λ u. search (rules, of_calls, u.call.called, u.call.read.standing, u.call.read.lengths, to-plan u.call.room u.call.read.standing.few-tokens))
