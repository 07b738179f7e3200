-- `query::find_node` meets its contract. Assumes nothing.
use Prim.Native.Nat.{◌<◌}
use mathlib.Core.Path.{refl}
use native.Mathlib.Omega.{arith}
use Rattle.std.proofs.lemmas.Result.{err_from_is_err_and}
use Rattle.query.proofs.Nodes.{asked-deep, asked-there, found-none, found-there}
use Rattle.query.proofs.find_node.Goals as goal

pub returns-then-n-k-clause-node_found : goal.returns-then-n-k-clause-node_found
returns-then-n-k-clause-node_found c = λ i s r. found-none _ i _ (omega (arith, s.many, c.if-n-k.true))

pub returns-in_err-at-clause-node_found : goal.returns-in_err-at-clause-node_found
returns-in_err-at-clause-node_found c = λ i s r.
    let few : c.args.k < c.args.nodes.count = omega (arith, c.if-n-k.false) in
    let e = err_from_is_err_and c.from_residual.result c.from_residual.ensures.1 in
    rw (e.1, e.2) (asked-deep _ _ i c.args.k c.args.nodes.count _ _ _ few refl s.items _ (λ ns p h. c.in_err-at.ensures.deeply ns p h r) _ _ refl)

pub returns-clause-node_found : goal.returns-clause-node_found
returns-clause-node_found c = λ i s r.
    let few : c.args.k < c.args.nodes.count = omega (arith, c.if-n-k.false) in
    let x = asked-there _ _ i c.args.k c.args.nodes.count _ _ _ few refl s.items _ (λ ns p h. c.in_ok-at.ensures.deeply ns p h r) _ refl in
    let l = c.node_at.ensures x.0 x.1 x.3 in
    found-there _ i _ _ (record {
      few = omega (arith, few, s.many);
      node = x.0;
      rest = x.2;
      end = x.1;
      last = c.args.nodes.end;
      laid = l;
      asked = x.5;
      next = refl;
      behind = rw l.ends x.4;
    })
