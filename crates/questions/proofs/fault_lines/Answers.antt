-- `questions::fault_lines` meets its contract. Assumes nothing.
use lib.ListN.{length}
use Rattle.std.proofs.Common.{rules, of_calls}
use Rattle.definitions.specs.Answer.{fault_lines_answer}
use Rattle.workspace.proofs.Kept.{to-plan}
use Rattle.fault_text.specs.Lines.{fault_lines_of}
use Rattle.questions.proofs.Asked.{letters-asked}
use Rattle.questions.proofs.fault_lines.Goals as goal

pub returns : goal.returns
unfolding fault_lines_answer
returns c = letters-asked (λ i. fault_lines_of i (length c.args.out.now)) c.ask.ensures (λ d. search rules) (λ u. search (rules, of_calls, u.call.called, u.call.read.standing, u.call.read.lengths, to-plan u.call.room u.call.read.standing.few-tokens))
