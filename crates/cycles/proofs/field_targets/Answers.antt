-- `cycles::field_targets` meets its contract: the names of the fields passed are there.
-- Assumes nothing.
use Rattle.cycles.proofs.Laws.{fields-begin, fields-next, fields-end}
use Rattle.cycles.proofs.field_targets.Goals as goal

pub loop-field-init : goal.loop-field-init
loop-field-init c = λ types fs k g. fields-begin types _ _ _ fs _ (rw c.into_iter-field-iterator.ensures.into_iter_gives (c.declarations-field-items.ensures.laid fs g)) (c.no_targets-targets.ensures types)

pub loop-field-preserved : goal.loop-field-preserved
loop-field-preserved c = λ types fs k g.
    let a = rw c.in-Some.ensures.steps at (c.loop-field.invariant types fs k g) in
    fields-next types _ _ _ fs _ _ a _ (λ f. c.add_type-targets.ensures types f.first.type _ a.names k f.laid.typed a.marked)

pub returns : goal.returns
returns c = λ types fs k g. fields-end types _ _ _ fs _ (c.loop-field.invariant types fs k g) c.in-None.ensures.steps.0
