-- `new_names::add_counted` meets its contract: the names so far are added. Assumes nothing.
use mathlib.Core.List.{List}
use Rattle.definitions.specs.Lists.{Letters}
use Rattle.definitions.specs.Output.{add_names}
use Rattle.spelling.specs.Stems.{stem_of}
use Rattle.spelling.specs.Table.{NamesHeld}
use Rattle.new_names.specs.Names.{counted_names}
use Rattle.new_names.proofs.add_counted.Given as goal

abbrev pub invariant-loop-number : goal.invariant-loop-number
invariant-loop-number l = (all : List Letters) → NamesHeld l.initial.table all → NamesHeld l.table (add_names all (counted_names (stem_of l.stem) l.numbers l.number-index))
