-- `query::write_faults` meets its contract: the faults before those that are left are in the list. Assumes nothing.
use Prim.Native.Nat.{◌≤◌}
use mathlib.Core.Path.{refl, ◌∙◌}
use Rattle.std.proofs.Common.{rules}
use Rattle.spelling.specs.Writing.{last_place}
use Rattle.query.proofs.Entries.{faults-none, fault-written, faults-all, faults-few}
use Rattle.query.proofs.write_faults.Goals as goal

pub loop-found-init : goal.loop-found-init
loop-found-init c = (refl, rw (c.into_iter-found-iterator.ensures.into_iter_gives, c.faults-found-items.ensures) (faults-none _ _ _ _ refl refl))

pub loop-found-preserved : goal.loop-found-preserved
loop-found-preserved c =
    let many : c.args.findings.count ≤ last_place = search rules in
    (c.push.ensures.same ∙ c.loop-found.invariant.0, fault-written _ _ _ _ _ _ _ (faults-few c.args.findings.words.now c.args.findings.count many) (rw c.in-Some.ensures.steps at c.loop-found.invariant.1) c.push.ensures)

pub returns-clause-value : goal.returns-clause-value
returns-clause-value c = (faults-all _ _ _ _ (rw c.in-None.ensures.steps.0 at c.loop-found.invariant.1)).0

pub returns-clause-list_after : goal.returns-clause-list_after
returns-clause-list_after c =
    let put = (faults-all _ _ _ _ (rw c.in-None.ensures.steps.0 at c.loop-found.invariant.1)).1 in
    search (rules, put)
