-- `new_names::put_stem_ids` meets its contract: the ids so far are put. Assumes nothing.
use mathlib.Core.Path.{◌≡◌}
use Rattle.spelling.specs.Writing.{over_at}
use Rattle.spelling.specs.Stems.{stem_of}
use Rattle.spelling.specs.Table.{names_of}
use Rattle.new_names.specs.Names.{ids_of}
use Rattle.new_names.proofs.put_stem_ids.Given as goal

abbrev pub invariant-loop-j : goal.invariant-loop-j
invariant-loop-j l = l.ids ≡ over_at 0 (ids_of (names_of l.table) (stem_of l.stem) l.numbers l.j) l.initial.ids
