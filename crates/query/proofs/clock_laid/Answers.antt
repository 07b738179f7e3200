-- `query::clock_laid` meets its contract. Assumes nothing.
use mathlib.Core.Path.{refl}
use Rattle.std.proofs.Common.{rules}
use Rattle.std.proofs.lemmas.Result.{err_from_is_err_and}
use Rattle.definitions.specs.declared.Refusal.{Refusal}
use Rattle.findings.proofs.Laws.{ok-told}
use Rattle.query.proofs.Nodes.{part-enough, clocked-deep, clocked-node}
use Rattle.query.proofs.clock_laid.Goals as goal

pub returns-in_err-clocked-clause-clocked_as : goal.returns-in_err-clocked-clause-clocked_as
returns-in_err-clocked-clause-clocked_as c = λ n q d r.
    let e = err_from_is_err_and c.from_residual.result c.from_residual.ensures.1 in
    rw (e.1, e.2) (clocked-deep _ _ _ _ _ n _ (c.clock_laid-clocked.ensures.clocked_or_deep n q d (record { named = record { clocked = r.clocks; marked = part-enough _ _ _ c.min-n.ensures refl _ refl r.few }; rowed = r.found })) _ c.in_err-clocked.ensures.variant (search rules))

pub returns-clause-clocked_as : goal.returns-clause-clocked_as
returns-clause-clocked_as c = λ n q d r. clocked-node _ _ _ _ _ n _ (c.clock_laid-clocked.ensures.clocked_or_deep n q d (record { named = record { clocked = r.clocks; marked = part-enough _ _ _ c.min-n.ensures refl _ refl r.few }; rowed = r.found })) q _ _ (ok-told Refusal _ _ _ c.in_ok-clocked.ensures.variant c.in_ok-clocked.ensures.cases) d (λ k f. c.clock_laid-clocked.ensures.sites_told n q k d f (record { named = record { clocked = r.clocks; marked = part-enough _ _ _ c.min-n.ensures refl _ refl r.few }; rowed = r.found }) r.sited)

pub returns-clause-sites_told : goal.returns-clause-sites_told
returns-clause-sites_told c = λ n q k d f r. c.clock_laid-clocked.ensures.sites_told n q k d f (record { named = record { clocked = r.clocks; marked = part-enough _ _ _ c.min-n.ensures refl _ refl r.few }; rowed = r.found }) r.sited
