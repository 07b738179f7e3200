-- `query::clock_at` meets its contract: the refusal of node k stands before one behind it. Assumes nothing.
use native.Mathlib.Omega.{arith}
use Rattle.std.proofs.lemmas.Result.{err_from_is_err_and}
use Rattle.workspace.proofs.Kept.{roomy-kept}
use Rattle.query.proofs.Nodes.{found-turned, found-at, told-as, told-refused, told-deep, told-behind, told-node}
use Rattle.query.proofs.clock_at.Goals as goal

pub returns-in_err-found-clause-node_told : goal.returns-in_err-found-clause-node_told
returns-in_err-found-clause-node_told c = λ i q g r.
    let e = err_from_is_err_and c.from_residual.result c.from_residual.ensures.1 in
    rw (e.1, e.2) (told-refused _ _ _ _ _ _ (found-turned _ i _ _ (c.in_err-found.ensures.node_found i (c.sheet_at-whole.ensures i.sheet q g).nodes r)))

pub returns-in_err-told-clause-node_told : goal.returns-in_err-told-clause-node_told
returns-in_err-told-clause-node_told c = λ i q g r.
    let f = found-at _ i _ _ (c.in_ok-found.ensures.node_found i (c.sheet_at-whole.ensures i.sheet q g).nodes r) in
    let e = err_from_is_err_and c.from_residual-in_err-told.result c.from_residual-in_err-told.ensures.1 in
    rw (e.1, e.2) (told-as _ _ _ _ _ _ _ f.asked (told-deep _ _ _ _ f.node f.rest _ (c.in_err-told.ensures.clocked_as f.node f.end f.laid (roomy-kept c.search_behind-behind.ensures.same_room (roomy-kept c.in_ok-found.ensures.same_room r)))))

pub returns-in_err-behind-clause-node_told : goal.returns-in_err-behind-clause-node_told
returns-in_err-behind-clause-node_told c = λ i q g r.
    let f = found-at _ i _ _ (c.in_ok-found.ensures.node_found i (c.sheet_at-whole.ensures i.sheet q g).nodes r) in
    let e = err_from_is_err_and c.from_residual-in_err-behind.result c.from_residual-in_err-behind.ensures.1 in
    rw (e.1, e.2) (told-as _ _ _ _ _ _ _ f.asked (told-behind _ _ _ _ f.node f.rest _ (c.in_ok-told.ensures.clocked_as f.node f.end f.laid (roomy-kept c.search_behind-behind.ensures.same_room (roomy-kept c.in_ok-found.ensures.same_room r))) f.last _ (c.search_behind-behind.ensures.behind i _ f (roomy-kept c.in_ok-found.ensures.same_room r)) _ c.in_err-behind.was))

pub returns-clause-node_told : goal.returns-clause-node_told
returns-clause-node_told c = λ i q g r.
    let l = c.sheet_at-whole.ensures i.sheet q g in
    let f = found-at _ i _ _ (c.in_ok-found.ensures.node_found i l.nodes r) in
    told-as _ _ _ _ _ _ _ f.asked (told-node _ _ _ _ f.node f.rest _ (c.in_ok-told.ensures.clocked_as f.node f.end f.laid (roomy-kept c.search_behind-behind.ensures.same_room (roomy-kept c.in_ok-found.ensures.same_room r))) f.last _ (c.search_behind-behind.ensures.behind i _ f (roomy-kept c.in_ok-found.ensures.same_room r)) _ c.in_ok-behind.was (omega (arith, f.few, l.nodes.many, l.few-nodes)))
