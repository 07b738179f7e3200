-- `index::index_of` meets its contract. Assumes nothing.
use mathlib.Core.Path.{refl}
use Rattle.layout.proofs.Laws.{types-placed, nodes-placed}
use Rattle.index.proofs.index_of.Goals as goal

pub returns-clause-indexed : goal.returns-clause-indexed
returns-clause-indexed c = λ i q g e.
    let l = c.sheet_at-whole.ensures i.sheet q g in
    let t = types-placed _ _ i.sheet c.sheet_at-whole.result l _ _ c.definition_places-types.result.at c.definition_places-types.ensures.count refl c.definition_places-types.ensures.table in
    let n = nodes-placed _ _ i.sheet c.sheet_at-whole.result l _ _ c.node_places-nodes.result.at c.node_places-nodes.ensures.count refl c.node_places-nodes.ensures.places in
    record { laid = l; nodes = record { count = n.0; each = n.1 }; types = record { table = t; defaulted = c.has_defaults-has.ensures i.sheet.types t }; condact = e }
