-- `declock::put_parent` meets its contract: a parent that is not base has a flag. Assumes nothing.
use mathlib.Core.Path.{sym, ap, ◌∙◌}
use Rattle.definitions.specs.Clock.{is_base}
use Rattle.clock_tables.specs.Value.{value_of}
use Rattle.declock.proofs.FlagsLaws.{parent-none, parent-flag}
use Rattle.declock.proofs.put_parent.Goals as goal

pub returns-then-is_base : goal.returns-then-is_base
returns-then-is_base c = λ id t. parent-none _ id (value_of c.args.c) (ap is_base (sym c.parent-parent.ensures) ∙ sym c.is_base.ensures ∙ c.if-is_base.true)

pub returns : goal.returns
returns c = λ id t. parent-flag _ _ id (value_of c.args.c) _ (ap is_base (sym c.parent-parent.ensures) ∙ sym c.is_base.ensures ∙ c.if-is_base.false) (c.id-x.ensures id t ∙ ap id c.parent-parent.ensures) c.put_named.ensures
