-- `defaults::has_defaults` meets its contract: after k rounds the set says what is known k definitions down.
-- Assumes nothing.
use Rattle.std.specs.Prelude.{List}
use Rattle.definitions.specs.Tree.{TypeDef}
use Rattle.cycles.specs.Defines.{Defines}
use Rattle.defaults.specs.Has.{DefaultsKnown}
use Rattle.defaults.proofs.has_defaults.Given as goal

abbrev pub invariant-loop : goal.invariant-loop
invariant-loop l =
    (types : List TypeDef) → Defines l.table types → DefaultsKnown types l.table.places.now.count l.counter l.has
