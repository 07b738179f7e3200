-- `listings::clocks_in` meets its contract. Assumes nothing.
use Rattle.std.proofs.lemmas.Result.{err_from_is_err_and}
use Rattle.workspace.proofs.Kept.{list-kept}
use Rattle.listings.proofs.Given.{clocks-turned, node-there, clocks-given, same-below}
use Rattle.listings.proofs.clocks_in.Goals as goal

pub returns-in_err-told-clause-given : goal.returns-in_err-told-clause-given
returns-in_err-told-clause-given c = λ i s r. let e = err_from_is_err_and c.from_residual.result c.from_residual.ensures.1 in
    rw (e.1, e.2) (clocks-turned _ _ _ i _ _ _ _ _ (c.in_err-told.ensures.node_told i _ s.tree r.clocks))

pub returns-clause-given : goal.returns-clause-given
returns-clause-given c = λ i s r. let z = node-there _ _ _ i _ _ (c.in_ok-told.ensures.node_told i _ s.tree r.clocks) in clocks-given _ i _ _ z.0 _ _ _ _ _ _ _ s.named z.3 z.1 (c.write_clocked.ensures z.0 z.2 (list-kept c.clock_at.ensures.same_room r).chains (same-below _ _ _ z.3 z.4))
