-- `planned::one_equation` meets its contract: left names, what is before the right side, the right side, what is behind it.
-- Assumes nothing.
use Rattle.planned.proofs.EquationsRights.{parts_at, equation-written}
use Rattle.planned.proofs.one_equation.Goals as goal

pub returns : goal.returns
returns c = λ W ids lay n κ e q g i free h. let s = parts_at _ c.args.written.now.index.now.source.tags.now c.args.written.now.index.now.source.values.now c.args.written.now.index.now.source.same_length _ e q _ h.stands c.names_at-left.ensures in equation-written c.args.written.now W ids n _ κ e q i free h _ s g.stands _ c.word_at-word.ensures _ c.frame_by-f.ensures _ _ _ _ _ _ (c.put_left.ensures e.left s.names) c.put_before.ensures (c.expr-end.ensures W g.stands) (λ ks k. c.put_behind.ensures W.types W.nodes W.node e.left ks (record { layout = lay; end = g.end; laid = g.laid; table = g.stands.table; declares = g.declares }) s.names k)
