-- `cycles::name_targets` meets its contract: by the definition that is found.
-- Assumes nothing.
use mathlib.Core.Path.{◌∙◌}
use native.Mathlib.Omega.{arith}
use Rattle.layout.specs.Table.{def_at}
use Rattle.cycles.proofs.Laws.{names-stand, goes-nowhere, goes_by}
use Rattle.cycles.proofs.name_targets.Goals as goal

pub returns-in-Some : goal.returns-in-Some
returns-in-Some c = λ types t. let m = names-stand c.args.table.now types t in let f = c.in-Some.ensures.first types m in let s = t.stands c.in-Some.first (omega (arith, f.1, t.count)) in
    goes_by types _ _ (c.name-x.ensures ∙ m.same _ c.requires) _ _ f.0 f.1 (c.definition_targets.ensures types (def_at types c.in-Some.first) s.0 m s.1)

pub returns-in-None : goal.returns-in-None
returns-in-None c = λ types t. let m = names-stand c.args.table.now types t in goes-nowhere types _ _ (c.name-x.ensures ∙ m.same _ c.requires) (c.in-None.ensures.first types m)
