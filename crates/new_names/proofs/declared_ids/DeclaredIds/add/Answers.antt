-- `new_names::declared_ids::DeclaredIds::add` meets its contract: the names so far, and the declarations left. Assumes nothing.
use native.Mathlib.Omega.{arith}
use Rattle.new_names.proofs.Ids.{putting-start, putting-next, putting-room}
use Rattle.new_names.proofs.declared_ids.DeclaredIds.add.Goals as goal

pub loop-declared-init : goal.loop-declared-init
loop-declared-init c = λ l h u. putting-start _ _ _ _ l _ (rw c.into_iter-declared-iterator.ensures.into_iter_gives (c.declarations-declared-items.ensures.laid l h))

pub returns-then-self-ge-MOST_DECLARED : goal.returns-then-self-ge-MOST_DECLARED
returns-then-self-ge-MOST_DECLARED c = λ l h u.
    let a = rw c.in-Some.ensures.steps at (c.loop-declared.invariant l h u) in
    absurd (omega (arith, putting-room _ _ _ _ _ _ l _ _ a u, c.if-self-ge-MOST_DECLARED.true))

pub loop-declared-preserved : goal.loop-declared-preserved
loop-declared-preserved c = λ l h u. putting-next _ _ _ _ _ _ l _ _ (rw c.in-Some.ensures.steps at (c.loop-declared.invariant l h u))
