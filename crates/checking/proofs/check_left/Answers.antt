-- The left names, one after another.
use mathlib.Core.Path.{refl, ◌∙◌}
use Rattle.checking.proofs.Left.{left_step, left-end}
use Rattle.checking.proofs.check_left.Goals as goal

pub loop-x-preserved : goal.loop-x-preserved
loop-x-preserved c =
    let k = c.loop-x.invariant in
    let s = c.left_on.ensures.still_lent in (
      record { same_reference = s.same_reference ∙ k.0.same_reference; same_length = s.same_length ∙ k.0.same_length },
      left_step c.args.input.now _ _ c.args.names.now _ c.loop-x.x-index k.1 _ _ c.loop-x-test.true refl c.left_on.ensures.held,
    )

pub returns-clause-held : goal.returns-clause-held
returns-clause-held c = left-end c.args.input.now _ _ c.args.names.now _ c.loop-x.x-index c.loop-x.invariant.1 c.loop-x-test.false
