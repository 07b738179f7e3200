-- `sheet::check_types` meets its contract.
-- Assumes nothing.
use mathlib.Core.Path.{refl}
use Rattle.layout.proofs.Laws.{types-placed}
use Rattle.sheet.proofs.Laws.{no-cycle, a-cycle}
use Rattle.sheet.proofs.check_types.Goals as goal

pub returns-in-None : goal.returns-in-None
returns-in-None c = λ s q g.
    let t = types-placed _ _ s c.sheet_at.result (c.sheet_at.ensures s q g) _ _ c.definition_places.result.at c.definition_places.ensures.count refl c.definition_places.ensures.table in
    no-cycle _ _ s q g (c.in-None.ensures s.types t)

pub returns-in-Some : goal.returns-in-Some
returns-in-Some c = λ s q g.
    let t = types-placed _ _ s c.sheet_at.result (c.sheet_at.ensures s q g) _ _ c.definition_places.result.at c.definition_places.ensures.count refl c.definition_places.ensures.table in
    a-cycle _ _ s q g _ (c.in-Some.ensures s.types t)
