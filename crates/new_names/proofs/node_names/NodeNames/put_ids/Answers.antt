-- `new_names::node_names::NodeNames::put_ids` meets its contract. Assumes nothing.
use mathlib.Core.Path.{◌∙◌}
use native.Mathlib.Omega.{arith}
use Rattle.definitions.specs.Declock.{ck, first, hold}
use Rattle.spelling.specs.Table.{names_of}
use Rattle.new_names.proofs.Added.{take-least, least-length, ids-cut}
use Rattle.new_names.proofs.node_names.NodeNames.put_ids.Goals as goal

pub returns-clause-flags : goal.returns-clause-flags
returns-clause-flags c =
    let l = c.args.self.now.flags.numbers in
    let n = c.args.needs.now.flags.count in
    c.put_stem_ids.ensures ∙ ids-cut (names_of c.args.table.now) ck l _ _ n (omega arith) (take-least l n _ (omega arith) c.min.ensures) (least-length l n _ (omega arith) c.min.ensures)

pub returns-clause-firsts : goal.returns-clause-firsts
returns-clause-firsts c =
    let l = c.args.self.now.firsts.numbers in
    let n = c.args.needs.now.firsts.count in
    c.put_stem_ids-2.ensures ∙ ids-cut (names_of c.args.table.now) first l _ _ n (omega arith) (take-least l n _ (omega arith) c.min-2.ensures) (least-length l n _ (omega arith) c.min-2.ensures)

pub returns-clause-holds : goal.returns-clause-holds
returns-clause-holds c = c.put_stem_ids-3.ensures ∙ ids-cut (names_of c.args.table.now) hold c.args.self.now.hold_numbers _ _ c.args.self.now.holds (omega arith) c.held-holds.ensures.value c.held-holds.ensures.counted

-- The check finds this alone. It stands here so that an edit is refused by it.
pub returns-clause-condact : goal.returns-clause-condact
returns-clause-condact c = c.id_of-ids.ensures
