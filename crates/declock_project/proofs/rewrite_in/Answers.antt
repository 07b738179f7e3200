-- `declock_project::rewrite_in` meets its contract. Assumes nothing.
use mathlib.Core.Path.{refl}
use native.Mathlib.Omega.{arith}
use Rattle.std.proofs.lemmas.Result.{err_from_is_err_and}
use Rattle.first_faults.proofs.Standing.{stands-in}
use Rattle.declock_project.proofs.Nodes.{whole-put}
use Rattle.declock_project.proofs.Outcomes.{deep-given, faulty-given, none_deep, none-recorded, recorded-long, faultless-read, names-copied}
use Rattle.declock_project.proofs.rewrite_in.Goals as goal

pub returns-then-list-gt0-clause-given : goal.returns-then-list-gt0-clause-given
returns-then-list-gt0-clause-given c = λ bytes r h room.
    let z = stands-in c.index_of-index.ensures.source_value c.index_of-index.ensures.indexed c.args.names c.condact.ensures h.standing h.lengths room in
    let n = none_deep r _ _ _ (c.in_ok-walk_nodes.ensures.walks r z.0 (record { plans = z.1; hold-room = refl })) in
    let x = c.copy_faults.ensures _ _ n.2 (omega (arith, recorded-long n.2, c.in_ok-walk_nodes.ensures.few)) in
    faulty-given bytes r h.reading c.args.out.now c.args.faults.now n.0 n.1 _ _ x.counted x.written (omega (arith, c.if-list-gt0.true))

pub returns-in_err-walk_nodes-clause-given : goal.returns-in_err-walk_nodes-clause-given
returns-in_err-walk_nodes-clause-given c = λ bytes r h room.
    let z = stands-in c.index_of-index.ensures.source_value c.index_of-index.ensures.indexed c.args.names c.condact.ensures h.standing h.lengths room in
    let p = err_from_is_err_and c.from_residual.result c.from_residual.ensures.1 in
    rw (p.1, p.2) (deep-given bytes r h.reading c.args.out.now c.args.faults.now _ _ _ (c.in_err-walk_nodes.ensures.walks r z.0 (record { plans = z.1; hold-room = refl })))

pub returns-clause-given : goal.returns-clause-given
returns-clause-given c = λ bytes r h room.
    let z = stands-in c.index_of-index.ensures.source_value c.index_of-index.ensures.indexed c.args.names c.condact.ensures h.standing h.lengths room in
    let n = none-recorded r _ _ _ (c.in_ok-walk_nodes.ensures.walks r z.0 (record { plans = z.1; hold-room = refl })) (omega (arith, c.if-list-gt0.false)) in
    let a = c.in_ok-walk_nodes.ensures.all_put bytes r n.0 z.0 (record { plans = z.1; hold-room = refl }) (faultless-read h n.0 n.1 n.2) (names-copied h.lengths c.fill.ensures) in
    c.write_output.ensures bytes r n.0 _ _ refl refl (record { reading = h.reading; clocks = n.1; none-faulty = n.2 }) a.names (λ free. whole-put r n.0 n.1 _ _ _ (c.put_types.ensures _ r.sheet z.0.laid) (a.tokens free)) (omega arith) (omega arith)
