-- `inference::repeat_passes` meets its contract: the passes left, from the clocks so far, make the whole.
-- Assumes nothing.
use mathlib.Core.Path.{◌≡◌}
use native.Mathlib.Omega.{arith}
use borrow.Author.Rules.{rules}
use Prim.Native.Nat.{◌+◌}
use Rattle.std.proofs.lemmas.Result.{err_from_is_err_and}
use Rattle.inference.proofs.PassesLaws.{infers-in, kept-then, repeating-step, repeating-stop, repeating-deep, repeating-end}
use Rattle.inference.proofs.repeat_passes.Goals as goal

pub loop-made-preserved : goal.loop-made-preserved
loop-made-preserved c = (
  kept-then _ _ _ c.loop-made.invariant.0 c.one_pass.ensures.kept,
  λ n q clocks m g a. repeating-step c.args.source.now n c.loop-made.tables c.one_pass.new.tables c.args.marks.now c.equation_ends-ends.result c.args.equations.count c.args.equations.at q _ c.loop-made.made _ _ c.loop-made-test.true m (c.equation_ends-ends.ensures n.equations q g) g c.one_pass.ensures.held (c.loop-made.invariant.1 n q clocks m g a) _ c.in_ok-changed.was c.if-not-changed.false,
)

pub returns-then-not-changed : goal.returns-then-not-changed
returns-then-not-changed c = λ n q clocks m g a. infers-in c.one_pass.new.tables.env.now _ _ _ _ (search rules) (repeating-stop c.args.source.now n c.loop-made.tables c.one_pass.new.tables c.args.marks.now c.equation_ends-ends.result c.args.equations.count c.args.equations.at q _ c.loop-made.made _ _ c.loop-made-test.true m (c.equation_ends-ends.ensures n.equations q g) g c.one_pass.ensures.held (c.loop-made.invariant.1 n q clocks m g a) _ c.in_ok-changed.was c.if-not-changed.true)

pub returns-in_err-changed : goal.returns-in_err-changed
returns-in_err-changed c = λ n q clocks m g a. let v = err_from_is_err_and c.from_residual.result c.from_residual.ensures.1 in rw v.1 (infers-in c.one_pass.new.tables.env.now _ _ _ _ (search rules) (repeating-deep c.args.source.now n c.loop-made.tables c.one_pass.new.tables c.args.marks.now c.equation_ends-ends.result c.args.equations.count c.args.equations.at q _ c.loop-made.made _ _ c.loop-made-test.true m (c.equation_ends-ends.ensures n.equations q g) g c.one_pass.ensures.held (c.loop-made.invariant.1 n q clocks m g a) _ _ c.in_err-changed.was))

pub returns : goal.returns
returns c =
    let most : c.loop-made.made ≡ c.args.equations.count + 1 = omega (arith, c.loop-made.auto.made-end, c.loop-made-test.false) in
    λ n q clocks m g a. rw (← most) (infers-in c.loop-made.tables.env.now _ _ _ _ (search rules) (repeating-end _ n _ _ c.loop-made.made _ c.loop-made-test.false (c.loop-made.invariant.1 n q clocks m g a)))
