-- `new_names::node_names::NodeNames::add_to` meets its contract. Assumes nothing.
use mathlib.Core.Bool.{true, false}
use Rattle.new_names.proofs.Added.{with_flags, with_firsts, with_all, holds-added, names-added}
use Rattle.new_names.proofs.node_names.NodeNames.add_to.Goals as goal

pub returns-then-self : goal.returns-then-self
returns-then-self c = λ names node w needs all f h. names-added names node w f all true c.if-self.true (c.add_new.ensures (with_all names node w f all) (holds-added names node w f all _ c.held.ensures.value c.held.ensures.counted (c.add_counted.ensures (with_firsts names node w f all) (c.add_to-2.ensures (with_flags names node w f all) (c.add_to.ensures all h)))))

pub returns-else-self : goal.returns-else-self
returns-else-self c = λ names node w needs all f h. names-added names node w f all false c.if-self.false (holds-added names node w f all _ c.held.ensures.value c.held.ensures.counted (c.add_counted.ensures (with_firsts names node w f all) (c.add_to-2.ensures (with_flags names node w f all) (c.add_to.ensures all h))))
