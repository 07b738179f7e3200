-- `layout::node_at` meets its contract: each list begins where the one before it ends.
-- Assumes nothing.
use Rattle.std.proofs.Common.{rules}
use Rattle.layout.proofs.Laws.{kind-by, laid}
use Rattle.layout.proofs.node_at.Goals as goal

pub returns : goal.returns
returns c = laid _ _ c.args.source.now.same_length _ _ _ _ c.behind-second.ensures c.behind-third.ensures _ _ _ _ _ c.declared_at-inputs.ensures c.declared_at-outputs.ensures c.declared_at-locals.ensures
    (record { first = c.list_at-equations.ensures.counted.0; counted = c.list_at-equations.ensures.counted.1; ended = λ l q g. let e = c.list_at-equations.ensures.ended in search rules })
    (record { first = c.list_at-probes.ensures.counted.0; counted = c.list_at-probes.ensures.counted.1; ended = λ l q g. let e = c.list_at-probes.ensures.ended in search rules })
    _ _ _ c.value_at-name.ensures c.value_at.ensures (kind-by _ _ _ c.try_from.ensures c.unwrap_or-kind.ensures)
