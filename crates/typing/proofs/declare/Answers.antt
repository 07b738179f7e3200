-- `typing::declare` meets its contract: one declaration after another.
-- Assumes nothing.
use mathlib.Core.Path.{◌∙◌, ap}
use native.Mathlib.Omega.{arith}
use lib.ListN.{length, length-set}
use Rattle.typing.proofs.Laws.{declaring-step}
use Rattle.typing.proofs.declare.Goals as goal

pub loop-declared-preserved : goal.loop-declared-preserved
loop-declared-preserved c = ((ap length c.put_at.ensures ∙ length-set _ _ _) ∙ c.loop-declared.invariant.0, λ ds all s room few h. declaring-step _ _ _ c.args.source.now.same_length _ _ _ _ _ _ c.word_past-word.ensures.says c.put_at.ensures (omega (arith, room, c.loop-declared.invariant.0)) few (rw c.in-Some.ensures.steps at (c.loop-declared.invariant.1 ds all s room few h)))
