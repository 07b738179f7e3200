-- The table is that of the findings.
use mathlib.Core.Path.{refl, ap}
use Rattle.std.specs.Prelude.{is_ok}
use Rattle.std.proofs.Common.{rules}
use Rattle.std.proofs.lemmas.Result.{err_from_is_err_and}
use Rattle.infer_clocks.proofs.Laws.{tallied-deep, tallied-count}
use Rattle.infer_clocks.proofs.Sites.{told-in}
use Rattle.infer_clocks.proofs.check_node.Goals as goal

pub returns-in_err-check_all-clause-counted : goal.returns-in_err-check_all-clause-counted
returns-in_err-check_all-clause-counted c = λ node clocks es q a g.
    let e = err_from_is_err_and c.from_residual.result c.from_residual.ensures.1 in
    rw e.1 (tallied-deep c.check_all.new.output _ _ _ c.in_err-check_all.was (c.check_all.ensures.tallied node clocks es q a g refl) _ _)

pub returns-clause-counted : goal.returns-clause-counted
returns-clause-counted c = λ node clocks es q a g. tallied-count c.check_all.new.output _ _ _ c.in_ok-check_all.was (c.check_all.ensures.tallied node clocks es q a g refl) _ _ (search rules) (search rules)

pub returns-clause-by_index : goal.returns-clause-by_index
returns-clause-by_index c = λ node clocks es q cs z a g room h. told-in c.check_all.new.output.sites.now _ (search rules) (c.check_all.ensures.by_index node clocks es q cs (ap is_ok c.in_ok-check_all.was) a g room h)
