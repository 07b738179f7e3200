-- `clock_pass::rewrite` meets its contract. Assumes nothing.
-- The check finds this alone: it stands so that an edit of the clause is refused by a fact.
use Rattle.clock_pass.proofs.rewrite.Goals as goal

pub returns-clause-demand_three : goal.returns-clause-demand_three
returns-clause-demand_three c = c.rewrite.ensures.demand_three
