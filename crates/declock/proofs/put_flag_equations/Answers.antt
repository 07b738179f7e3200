-- `declock::put_flag_equations` meets its contract: what the rows left say makes the whole. Assumes nothing.
use Prim.Native.Nat.{◌<◌}
use mathlib.Core.Path.{refl, sym, ap, ◌∙◌}
use native.Mathlib.Omega.{arith}
use Rattle.chain_order.specs.Order.{row_of}
use Rattle.declock.proofs.FlagsLaws.{rows_more, rows_all, row-here, id-here, flag_equation, flag_equations, equation-line}
use Rattle.declock.proofs.put_flag_equations.Goals as goal

pub loop-row-preserved : goal.loop-row-preserved
loop-row-preserved c =
    let f = c.args.flags.now in
    let few : c.loop-row.row-index < f.names.now.ordered = omega (arith, c.loop-row-test.true, c.order-row-items.ensures.counted) in
    let here = row-here (row_of f.clocks.words.now) _ _ _ _ _ c.order-row-items.ensures.value few c.clock.ensures in
    λ j t. rows_more _ _ (flag_equations j) _ _ (flag_equation j) (λ k ks. refl) _ _ _ _ few here (c.loop-row.invariant j t) (equation-line _ _ _ _ _ _ (id-here f j.flag _ _ _ t c.order-row-items.ensures.value few c.id_in.ensures ∙ ap j.flag (sym here)) c.put_left.ensures (c.put_activation.ensures j t))

pub returns : goal.returns
returns c = λ j t. rows_all _ _ (flag_equations j) _ _ refl _ _ (omega (arith, c.loop-row-test.false, c.order-row-items.ensures.counted, t.few)) (c.loop-row.invariant j t)
