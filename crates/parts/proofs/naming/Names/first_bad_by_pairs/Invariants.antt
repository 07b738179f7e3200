-- `parts::naming::Names::first_bad_by_pairs` meets its contract. The names so far are good, and the next ones are left. Assumes nothing.
use Rattle.parts.proofs.Walked.{Walked}
use Rattle.parts.proofs.naming.Names.first_bad_by_pairs.Given as goal

abbrev pub invariant-loop-i : goal.invariant-loop-i
invariant-loop-i l = Walked l.self l.i-iterator
