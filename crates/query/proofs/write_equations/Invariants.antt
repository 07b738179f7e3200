-- `query::write_equations` meets its contract: the clocks so far are written, and the others left. Assumes nothing.
use mathlib.Core.List.{List}
use Rattle.definitions.specs.Clock.{Clock}
use Rattle.lines.specs.Walk.{ClocksLeft}
use Rattle.query.proofs.Entries.{Entered}
use Rattle.query.proofs.write_equations.Given as goal

abbrev pub invariant-loop-i : goal.invariant-loop-i
invariant-loop-i l = (all : List Clock) → ClocksLeft all l.initial.i-iterator.iter → Entered all l.initial.list l.i-iterator.count l.i-iterator.iter l.list
