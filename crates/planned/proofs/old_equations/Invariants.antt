-- `planned::old_equations` meets its contract: one after another.
-- Assumes nothing.
use mathlib.Core.Path.{◌≡◌}
use mathlib.Core.List.{List, map}
use mathlib.Core.Option.{none}
use Prim.Native.Nat.{ℕ, ◌-◌}
use lib.ListN.{length}
use Rattle.definitions.specs.Lists.{join}
use Rattle.definitions.specs.InferClocks.{Clocked}
use Rattle.definitions.specs.Output.{equation_tokens}
use Rattle.stateless.specs.Yield.{Ids, old_yield}
use Rattle.stateless.specs.Faults.{old_fault}
use Rattle.emit.specs.Out.{emits}
use Rattle.planned.specs.Writes.{Writer}
use Rattle.planned.specs.Planned.{EquationsPlanned}
use Rattle.layout.specs.declared.NodeLayout.{NodeLayout}
use Rattle.planned.specs.Grounds.{Grounds}
use Rattle.planned.proofs.Old.{Left}
use Rattle.planned.proofs.old_equations.Given as goal

abbrev pub invariant-loop : goal.invariant-loop
invariant-loop l =
    (W : Writer) (ids : Ids) (layout : NodeLayout) (cs : List Clocked) (end : ℕ) → Grounds l.written layout W → ids.condact ≡ W.condact → old_fault W.types W.nodes W.node W.condact 0 cs ≡ none → length cs ≡ l.fn.equations.count
    → EquationsPlanned l.written.index.now.source.names l.written.index.now.source.tags.now l.written.index.now.source.values.now W l.written.plan.now W.condact ids 0 cs l.fn.equations.at end → Left l.written.index.now.source.names l.written.index.now.source.tags.now l.written.index.now.source.values.now W l.written.plan.now ids (emits l.initial.output (join (map equation_tokens (old_yield W.types W.nodes W.node ids 0 cs).value))) l.output (l.end - l.counter) l.place end
