-- `cycles::add_type` meets its contract: the type ends in one name or in none.
-- Assumes nothing.
use Rattle.cycles.specs.Edges.{Marked}
use Rattle.cycles.proofs.Laws.{target-one}
use Rattle.cycles.proofs.add_type.Goals as goal

pub returns-in-Some : goal.returns-in-Some
returns-in-Some c = λ types t q xs k g h. target-one (Marked types c.add_name.result) xs t _ (c.in-Some.ensures t q g) (c.add_name.ensures types xs k h)
