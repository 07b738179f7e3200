-- `new_names::flag_names::FlagNames::add_to` meets its contract: the first i names are added. Assumes nothing.
use mathlib.Core.Path.{refl}
use lib.ListN.{get_or}
use Rattle.definitions.specs.Output.{add_names}
use Rattle.spelling.specs.Stems.{stem_of}
use Rattle.new_names.specs.Names.{numbered_name, ordered_names}
use Rattle.new_names.proofs.Added.{ordered-name, adding-more}
use Rattle.new_names.proofs.flag_names.FlagNames.add_to.Goals as goal

pub loop-i-preserved : goal.loop-i-preserved
loop-i-preserved c =
    let i = c.loop-i.i in
    let s = c.args.self.now in
    λ all h. adding-more (λ i. numbered_name (stem_of c.args.stem) s.numbers (get_or s.order i 0)) all i _ (ordered-name (stem_of c.args.stem) s.numbers s.order i c.word_at-row.ensures refl c.word_at-number.ensures) (c.add_new.ensures (add_names all (ordered_names (stem_of c.args.stem) s.numbers s.order i)) (c.loop-i.invariant all h))
