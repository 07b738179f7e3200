-- `clock_tables::fill_front` meets its contract: one item more is put. Assumes nothing.
use mathlib.Core.Path.{◌∙◌}
use native.Mathlib.Omega.{arith}
use lib.ListN.{length-set}
use Rattle.std.proofs.lemmas.List.{length-take-le, take-append-drop}
use Rattle.clock_tables.proofs.FrontLaws.{front-put}
use Rattle.clock_tables.proofs.fill_front.Goals as goal

pub loop-x-init : goal.loop-x-init
loop-x-init g c =
    let few = length-take-le c.args.n c.args.list.now (omega (arith, c.if-n-list.true)) in
    (omega (arith, few), omega (arith, few), take-append-drop c.args.n c.args.list.now)

pub loop-x-preserved : goal.loop-x-preserved
loop-x-preserved g c =
    let l = c.loop-x in (
      l.invariant.0,
      length-set l.x-items l.x-index c.args.item ∙ l.invariant.1,
      front-put c.args.list.now l.x-items c.args.n l.x-index c.args.item (omega (arith, c.if-n-list.true)) l.invariant.1 (omega (arith, c.loop-x-test.true, l.invariant.1)) l.invariant.2,
    )
