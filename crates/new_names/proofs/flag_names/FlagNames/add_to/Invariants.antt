-- `new_names::flag_names::FlagNames::add_to` meets its contract: the first i names are added. Assumes nothing.
use mathlib.Core.List.{List}
use Rattle.definitions.specs.Lists.{Letters}
use Rattle.definitions.specs.Output.{add_names}
use Rattle.spelling.specs.Stems.{stem_of}
use Rattle.spelling.specs.Table.{NamesHeld}
use Rattle.new_names.specs.Names.{ordered_names}
use Rattle.new_names.proofs.flag_names.FlagNames.add_to.Given as goal

abbrev pub invariant-loop-i : goal.invariant-loop-i
invariant-loop-i l = (all : List Letters) → NamesHeld l.initial.table all → NamesHeld l.table (add_names all (ordered_names (stem_of l.stem) l.self.numbers l.self.order l.i))
