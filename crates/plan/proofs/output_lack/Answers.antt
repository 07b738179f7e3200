-- `plan::output_lack` meets its contract: one output after another.
-- Assumes nothing.
use Rattle.plan.proofs.Sites.{lack-first, lack-next, lack-none}
use Rattle.plan.proofs.output_lack.Goals as goal

pub returns-then-not-has_default : goal.returns-then-not-has_default
returns-then-not-has_default c = λ ds f types l node s k. lack-first types l node f _ _ _ _ _ _ (λ t q e. c.has_default.ensures types t q k e) (rw c.in-Some.ensures.steps at (c.loop-declared.invariant ds f types l node s k)) c.if-not-has_default.true

pub loop-declared-preserved : goal.loop-declared-preserved
loop-declared-preserved c = λ ds f types l node s k. lack-next types l node f _ _ _ _ _ _ (λ t q e. c.has_default.ensures types t q k e) (rw c.in-Some.ensures.steps at (c.loop-declared.invariant ds f types l node s k)) c.if-not-has_default.false

pub returns : goal.returns
returns c = λ ds f types l node s k. lack-none types l node f _ _ _ _ c.in-None.ensures.steps.0 (c.loop-declared.invariant ds f types l node s k)
