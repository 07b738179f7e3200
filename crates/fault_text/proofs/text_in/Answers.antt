-- `fault_text::text_in` meets its contract: the refusal of node k stands before one behind it. Assumes nothing.
use mathlib.Core.Path.{◌≡◌, refl}
use Rattle.std.proofs.lemmas.Result.{err_from_is_err_and}
use Rattle.definitions.specs.Bytes.{cut}
use Rattle.definitions.specs.Answer.{Input}
use Rattle.query.specs.Standing.{Standing}
use Rattle.query.proofs.Nodes.{found-turned}
use Rattle.workspace.specs.Room.{RoomToPlan}
use Rattle.workspace.proofs.Kept.{roomy-kept, plan-kept}
use Rattle.first_faults.proofs.Standing.{stands-in}
use Rattle.fault_text.proofs.Texts.{Sought, node-of, text-turned, text-as, text-deep, text-behind, text-there}
use Rattle.fault_text.proofs.text_in.Goals as goal
use Rattle.fault_text.proofs.text_in.Goals.{After-find_node}

sought : (c : After-find_node) (i : Input) → Standing c.args.names.spelling c.args.source.now i → i.names ≡ cut c.args.names.lengths.now c.args.names.spelling.letters.now
    → RoomToPlan c.args.source.now c.args.working.now → Sought c.index_of-index.result i c.args.k c.find_node.result c.find_node.new.working
sought c i s named room =
    let z = stands-in c.index_of-index.ensures.source_value c.index_of-index.ensures.indexed c.args.names c.condact.ensures s named room in
    record { indexed = z.0; found = c.find_node.ensures.node_found i z.0.laid.nodes z.1.clocks; room = plan-kept c.find_node.ensures.same_room z.1 }

pub returns-in_err-found-clause-given : goal.returns-in_err-found-clause-given
returns-in_err-found-clause-given c = λ i s named room.
    let z = sought (goal.at.returns-in_err-found-clause-given c).After-find_node i s named room in
    let e = err_from_is_err_and c.from_residual.result c.from_residual.ensures.1 in
    rw (e.1, e.2) (text-turned i _ c.args.j c.args.out.now _ (found-turned _ i _ _ (rw c.in_err-found.was at z.found)))

pub returns-in_err-fault-clause-given : goal.returns-in_err-fault-clause-given
returns-in_err-fault-clause-given c = λ i s named room.
    let z = sought (goal.at.returns-in_err-fault-clause-given c).After-find_node i s named room in
    let f = node-of _ z c.in_ok-found.was in
    let e = err_from_is_err_and c.from_residual-in_err-fault.result c.from_residual-in_err-fault.ensures.1 in
    rw (e.1, e.2, c.in_err-fault.ensures.deepness.refused_at) (text-as i _ _ f.asked c.args.j c.args.out.now _ _ (text-deep i c.args.k c.args.j c.args.out.now f.node f.rest _ (c.in_err-fault.ensures.deepness.deep f.node f.end f.laid z.room) refl))

pub returns-in_err-search_behind-clause-given : goal.returns-in_err-search_behind-clause-given
returns-in_err-search_behind-clause-given c = λ i s named room.
    let z = sought (goal.at.returns-in_err-search_behind-clause-given c).After-find_node i s named room in
    let f = node-of _ z c.in_ok-found.was in
    let e = err_from_is_err_and c.from_residual-in_err-search_behind.result c.from_residual-in_err-search_behind.ensures.1 in
    rw (e.1, e.2) (text-as i _ _ f.asked c.args.j c.args.out.now _ _ (text-behind i c.args.k c.args.j c.args.out.now f.node f.rest _ (c.in_ok-fault.ensures.deepness.deep f.node f.end f.laid z.room) refl f.last _ (c.search_behind.ensures.behind i _ f (roomy-kept c.in_ok-fault.ensures.same_room z.room.clocks)) _ c.in_err-search_behind.was))

pub returns-clause-given : goal.returns-clause-given
returns-clause-given c = λ i s named room.
    let z = sought (goal.at.returns-clause-given c).After-find_node i s named room in
    let f = node-of _ z c.in_ok-found.was in
    text-as i _ _ f.asked c.args.j c.args.out.now _ _ (text-there i c.args.k c.args.j c.args.out.now f.node f.rest _ (c.in_ok-fault.ensures.deepness.deep f.node f.end f.laid z.room) refl f.last _ (c.search_behind.ensures.behind i _ f (roomy-kept c.in_ok-fault.ensures.same_room z.room.clocks)) _ c.in_ok-search_behind.was _ (λ k e. c.in_ok-fault.ensures.fault_value i f.node f.end k z.indexed f.laid e z.room) _ _ (c.text_found.ensures i.names s.named))
