-- `inference::give_name` meets its contract: a port, a name on the clock, and another.
-- Assumes nothing.
use Rattle.clock_tables.specs.Value.{value_of}
use Rattle.inference.proofs.PassesLaws.{name_new}
use Rattle.inference.proofs.give_name.Goals as goal

pub returns-clause-held : goal.returns-clause-held
returns-clause-held c = λ n p m b k l s. name_new c.args.tables.now.env.now c.args.round.now.marks.now c.args.tables.now.since.now c.args.round.now.present n m k c.args.x (value_of c.args.c) l b p s _ c.is_port.ensures c.if-is_port.false _ (rw c.clocks.ensures at c.has_clock.ensures) _ _ c.if-has_clock.false c.assign.ensures c.put_at.ensures
