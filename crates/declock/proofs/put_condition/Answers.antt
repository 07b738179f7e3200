-- `declock::put_condition` meets its contract: by its test. Assumes nothing.
use Rattle.declock.proofs.FlagsLaws.{condition-on, condition-not}
use Rattle.declock.proofs.put_condition.Goals as goal

pub returns-in-On : goal.returns-in-On
returns-in-On c = condition-on _ _ c.args.k c.in-On.is c.emit.ensures

pub returns-in-Not : goal.returns-in-Not
returns-in-Not c = condition-not _ _ c.args.k c.in-Not.is c.put_named.ensures
