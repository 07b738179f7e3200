-- The digits before this place are read.
use Rattle.arguments.proofs.Numbers.{Read}
use Rattle.arguments.proofs.number.Given as goal

abbrev pub invariant-loop-b : goal.invariant-loop-b
invariant-loop-b l = Read l.word l.n l.b-index
