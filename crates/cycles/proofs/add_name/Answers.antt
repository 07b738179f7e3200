-- `cycles::add_name` meets its contract: by whether the name is defined, and there already.
-- Assumes nothing.
use Rattle.cycles.proofs.Laws.{name-unknown, name-again}
use Rattle.cycles.proofs.add_name.Goals as goal

pub returns-in_default : goal.returns-in_default
returns-in_default c = λ types xs t m. name-unknown _ _ _ types t _ xs m _ (c.in_default.ensures.first types t)

pub returns-then-set-first : goal.returns-then-set-first
returns-then-set-first c = λ types xs t m. let f = c.in-Some.ensures.first types t in name-again _ _ _ types t _ xs m _ _ f.0 f.1 c.if-set-first.true
