-- `new_names::flag_names::FlagNames::fill` meets its contract: the table has its numbers in front. Assumes nothing.
use native.Mathlib.Omega.{arith}
use Rattle.spelling.specs.Stems.{stem_of}
use Rattle.new_names.proofs.Added.{numbers-free, numbers-front}
use Rattle.new_names.proofs.flag_names.FlagNames.fill.Goals as goal

pub returns-clause-numbered : goal.returns-clause-numbered
returns-clause-numbered c = λ all node e f. numbers-front all node (stem_of c.args.stem) _ _ c.args.self.now.numbers c.args.clocks.count _ (omega arith) (omega arith) (numbers-free all node (stem_of c.args.stem) _ _ _ _ e f c.fill_numbers.ensures)
