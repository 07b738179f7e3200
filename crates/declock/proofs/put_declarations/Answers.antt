-- `declock::put_declarations` meets its contract: what the rows left say makes the whole. Assumes nothing.
use Prim.Native.Nat.{◌<◌}
use mathlib.Core.Path.{refl}
use native.Mathlib.Omega.{arith}
use Rattle.declock.specs.Parts.{declaration_tokens, declarations}
use Rattle.declock.proofs.FlagsLaws.{rows_more, rows_all, id-here, declaration-line}
use Rattle.declock.proofs.put_declarations.Goals as goal

pub loop-row-preserved : goal.loop-row-preserved
loop-row-preserved c =
    let f = c.args.flags.now in
    let few : c.loop-row.row-index < f.names.now.ordered = omega (arith, c.loop-row-test.true, c.order-row-items.ensures.counted) in
    λ id t. rows_more _ _ (declarations id) _ _ (declaration_tokens id) (λ k ks. refl) _ _ _ _ few refl (c.loop-row.invariant id t) (declaration-line id _ _ _ _ (id-here f id _ _ _ t c.order-row-items.ensures.value few c.id_in.ensures) c.put_declaration.ensures)

pub returns : goal.returns
returns c = λ id t. rows_all _ _ (declarations id) _ _ refl _ _ (omega (arith, c.loop-row-test.false, c.order-row-items.ensures.counted, t.few)) (c.loop-row.invariant id t)
