-- `inference::one_equation` meets its contract: it is read, or can change nothing.
-- Assumes nothing.
use Prim.Native.Nat.{◌-◌}
use Rattle.inference.proofs.PassesLaws.{equation-calm}
use Rattle.inference.proofs.one_equation.Goals as goal

pub returns-clause-held : goal.returns-clause-held
returns-clause-held c = λ n p e b m g s h. equation-calm c.args.round.now.source.now c.args.tables.now (c.args.round.now.present - 1) c.args.round.now.present c.args.at c.args.end _ (rw (← c.saturating_sub-made.ensures) (rw c.dates.ensures at (c.touched.ensures c.if-touched.false))) n p e g s h
