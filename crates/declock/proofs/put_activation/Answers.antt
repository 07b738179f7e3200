-- `declock::put_activation` meets its contract: base is always on; else by the last condition, over the parent. Assumes nothing.
use Rattle.clock_tables.specs.Value.{value_of}
use Rattle.clock_tables.proofs.ClockLaws.{last-over}
use Rattle.declock.proofs.FlagsLaws.{on-base, on-condition}
use Rattle.declock.proofs.put_activation.Goals as goal

pub returns-in_default : goal.returns-in_default
returns-in_default c = λ i t. on-base i _ _ (value_of c.args.c) _ c.in_default.ensures.value c.conditions.ensures.clock c.emit.ensures

pub returns : goal.returns
returns c = λ i t. on-condition i _ _ (value_of c.args.c) _ _ _ (last-over _ _ (value_of c.args.c) c.in-Some.ensures.value c.conditions.ensures.clock) (c.put_parent.ensures i.flag t) c.put_condition.ensures
