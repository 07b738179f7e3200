-- `new_names::add_counted` meets its contract: the names so far are added. Assumes nothing.
use mathlib.Core.Path.{refl}
use Rattle.definitions.specs.Output.{add_names}
use Rattle.spelling.specs.Stems.{stem_of}
use Rattle.new_names.specs.Names.{numbered_name, counted_names}
use Rattle.new_names.proofs.Added.{adding-more}
use Rattle.new_names.proofs.add_counted.Goals as goal

pub loop-number-preserved : goal.loop-number-preserved
loop-number-preserved c = λ all h. adding-more (numbered_name (stem_of c.args.stem) c.args.numbers.now) all c.loop-number.number-index _ refl (c.add_new.ensures (add_names all (counted_names (stem_of c.args.stem) c.args.numbers.now c.loop-number.number-index)) (c.loop-number.invariant all h))
