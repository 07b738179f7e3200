-- The left names, one after another.
use lib.ListN.{drop}
use Rattle.clock_tables.specs.Value.{value_of}
use Rattle.findings.specs.Met.{StillLent}
use Rattle.checking.proofs.Left.{LeftGoing}
use Rattle.checking.proofs.check_left.Given as goal

abbrev pub invariant-loop-x : goal.invariant-loop-x
invariant-loop-x l = StillLent l.initial.findings l.findings × LeftGoing l.input (value_of l.on) l.initial.findings l.findings l.names (drop l.x-index l.names)
