-- `chain_order::condition_order` meets its contract. Assumes nothing.
use mathlib.Core.Path.{◌∙◌}
use Rattle.spelling.specs.Places.{letters_in}
use Rattle.chain_order.proofs.Laws.{conditions-cmp, conditions-alike, tests-cmp}
use Rattle.chain_order.proofs.condition_order.Goals as goal

pub returns-then-k-l : goal.returns-then-k-l
returns-then-k-l c = conditions-alike (letters_in c.args.spelling) c.args.k c.args.l c.if-k-l.true (c.cmp-tests.ensures ∙ tests-cmp c.args.k.test c.args.l.test)

pub returns : goal.returns
returns c = conditions-cmp (letters_in c.args.spelling) c.args.k c.args.l c.name.ensures c.name-2.ensures c.cmp-names.ensures (c.cmp-tests.ensures ∙ tests-cmp c.args.k.test c.args.l.test) c.then.ensures
