-- `declock::put_first_equations` meets its contract: what the rows left say makes the whole. Assumes nothing.
use Prim.Native.Nat.{◌<◌}
use mathlib.Core.Path.{refl, sym, ap, ◌∙◌}
use native.Mathlib.Omega.{arith}
use Rattle.chain_order.specs.Order.{row_of}
use Rattle.declock.proofs.FlagsLaws.{rows_more, rows_all, row-here, id-here, first_equation, first_equations, equation-line}
use Rattle.declock.proofs.put_first_equations.Goals as goal

pub loop-row-preserved : goal.loop-row-preserved
loop-row-preserved c =
    let f = c.args.firsts.now in
    let few : c.loop-row.row-index < f.names.now.ordered = omega (arith, c.loop-row-test.true, c.order-row-items.ensures.counted) in
    let here = row-here (row_of f.clocks.words.now) _ _ _ _ _ c.order-row-items.ensures.value few c.clock.ensures in
    λ j t u.
    let own = id-here f j.first _ _ _ t c.order-row-items.ensures.value few c.id_in-first.ensures ∙ ap j.first (sym here) in
    rows_more _ _ (first_equations j) _ _ (first_equation j) (λ k ks. refl) _ _ _ _ few here (c.loop-row.invariant j t u) (equation-line _ _ _ _ _ _ own c.put_left.ensures (c.put_first_tick.ensures j _ own (c.id-flag.ensures j.flag u)))

pub returns : goal.returns
returns c = λ j t u. rows_all _ _ (first_equations j) _ _ refl _ _ (omega (arith, c.loop-row-test.false, c.order-row-items.ensures.counted, t.few)) (c.loop-row.invariant j t u)
