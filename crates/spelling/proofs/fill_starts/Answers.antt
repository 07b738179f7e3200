-- `spelling::fill_starts` meets its contract. The loop has written the first i starts. Assumes nothing.
use Prim.Native.Nat.{◌+◌}
use mathlib.Core.Path.{◌≡◌, refl}
use native.Mathlib.Omega.{arith}
use lib.ListN.{length, length-set}
use Rattle.parts.specs.Places.{start}
use Rattle.parts.proofs.NamesLaws.{start-next}
use Rattle.spelling.proofs.Places.{fill_none, fill_more, fill_end, start-within}
use Rattle.spelling.proofs.fill_starts.Goals as goal

pub loop-i-init : goal.loop-i-init
unfolding start
loop-i-init c = (refl, refl, fill_none c.args.lengths.now _)

pub overflow_add-at : goal.overflow_add-at
overflow_add-at c =
    let l = c.loop-i in
    record { fits = omega (arith, start-within c.args.lengths.now (l.i + 1), start-next c.args.lengths.now l.i, c.requires.lengths_bound, l.invariant.0) }

pub loop-i-preserved : goal.loop-i-preserved
loop-i-preserved c =
    let l = c.loop-i in
    (omega (arith, start-next c.args.lengths.now l.i, l.invariant.0), simp length-set l.invariant.1, fill_more c.args.lengths.now _ l.i l.at _ (omega (arith, c.loop-i-test.true)) l.invariant.0 l.invariant.2)

pub returns : goal.returns
returns c =
    let l = c.loop-i in
    let e : l.i ≡ length c.args.lengths.now = omega (arith, c.loop-i-test.false, l.auto.i-end) in
    fill_end c.args.lengths.now _ (length c.args.lengths.now) _ (omega arith) (rw e at (fill_more c.args.lengths.now _ l.i l.at _ (omega (arith, l.auto.i-end)) l.invariant.0 l.invariant.2))
