use Prim.Native.Nat.{◌<◌}
use mathlib.Core.Path.{◌≡◌, refl, sym, ◌∙◌}
use native.Mathlib.Omega.{arith}
use borrow.Author.Rules.{rules}
use lib.ListN.{length, length-set}
use Rattle.clock_tables.proofs.ClockLaws.{base-at}
use Rattle.clock_tables.proofs.FlatLaws.{clock-past, load-more}
use Rattle.clock_tables.proofs.load.Goals as goal

pub returns-then-t-b : goal.returns-then-t-b
returns-then-t-b c = c.base-out.ensures ∙ sym (clock-past c.args.t.now c.args.b c.if-t-b.true)

pub loop-i-init : goal.loop-i-init
loop-i-init c =
    let n : length c.base-out.result.conditions ≡ 8 = search rules in
    (n, base-at _ 0 refl ∙ sym (base-at _ 0 refl))

pub loop-i-preserved : goal.loop-i-preserved
loop-i-preserved c =
    let v = c.loop-i.invariant in
    let l : c.loop-i.i < 8 = omega (arith, c.depth_at-depth.ensures, c.loop-i-test.true) in
    (simp length-set v.0, load-more _ c.args.t.now _ _ _ v.0 l c.condition_at.ensures v.1)
