-- `first_faults::add_first` meets its contract. Assumes nothing.
use mathlib.Core.Path.{sym, ◌∙◌, ap}
use Rattle.findings.specs.Value.{found_of}
use Rattle.first_faults.proofs.Records.{record-pushed}
use Rattle.first_faults.proofs.add_first.Goals as goal

pub returns-in-Some-clause-by_index : goal.returns-in-Some-clause-by_index
returns-in-Some-clause-by_index c = λ lent l fs h few e. record-pushed lent l _ _ h _ fs _ (sym (ap found_of c.in-Some.is) ∙ e) few c.push.ensures
