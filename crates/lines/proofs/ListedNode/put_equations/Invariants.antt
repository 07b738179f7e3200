-- `lines::ListedNode::put_equations` meets its contract: the lines so far, and the clocks left. Assumes nothing.
use mathlib.Core.List.{List}
use Rattle.definitions.specs.Clock.{Clock}
use Rattle.spelling.specs.Places.{letters_in}
use Rattle.lines.specs.Pieces.{equation_line}
use Rattle.lines.specs.Spelled.{Stays}
use Rattle.lines.specs.Walk.{ClocksLeft}
use Rattle.lines.proofs.Laws.{Lines}
use Rattle.lines.proofs.ListedNode.put_equations.Given as goal

abbrev pub invariant-loop-i : goal.invariant-loop-i
invariant-loop-i l =
    Stays l.initial.lines l.lines
    × ((all : List Clock) → ClocksLeft all l.initial.i-iterator.iter → Lines (equation_line (letters_in l.initial.lines.spelling)) l.initial.lines.text.now l.lines.text.now all l.i-iterator.count l.i-iterator.iter)
