-- `declock_project::write_wide` meets its contract: the new tables have as many rows as an output may have names. Assumes nothing.
use native.Mathlib.Omega.{arith}
use Rattle.declock_project.proofs.Nodes.{plan-put, never-put, sited-planned, sited-clean}
use Rattle.declock_project.proofs.write_wide.Goals as goal

pub returns-in-Ok-clause-laid_put : goal.returns-in-Ok-clause-laid_put
returns-in-Ok-clause-laid_put c = λ free s. plan-put _ free c.plan_in-node.ensures (sited-planned _ s c.plan_of-planned.ensures _ c.in-Ok.is (omega (arith, c.plan_of-planned.auto.flags)) (omega (arith, c.plan_of-planned.auto.firsts)) (omega (arith, c.plan_of-planned.auto.holds, s.hold-room))) c.write_planned.ensures.names_held c.write_planned.ensures.next_after

pub returns-in_default-clause-laid_put : goal.returns-in_default-clause-laid_put
returns-in_default-clause-laid_put c = λ free s. never-put (sited-clean _ s c.plan_of-planned.ensures _ c.in_default.is)
