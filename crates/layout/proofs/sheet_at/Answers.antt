-- `layout::sheet_at` meets its contract.
-- Assumes nothing.
use Rattle.std.proofs.Common.{rules}
use Rattle.layout.proofs.Laws.{laid-sheet}
use Rattle.layout.proofs.sheet_at.Goals as goal

pub returns : goal.returns
returns c = laid-sheet _ _ c.args.source.now.same_length _ _
    (record { first = c.list_at-types.ensures.counted.0; counted = c.list_at-types.ensures.counted.1; ended = λ l q g. let e = c.list_at-types.ensures.ended in search rules })
    _ _ c.behind-at.ensures c.value_at-count.ensures
